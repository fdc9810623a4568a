use Rattle.std.proofs.Common.{◌≡◌, ℕ, ◌+◌, ◌*◌, ◌-◌, ◌≤◌, List, Option, None}
use Rattle.std.specs.Prelude.{vec_len}
use Rattle.trip_model.specs.Links.{next_of, before_of}
use Rattle.pair_search.specs.Determined.{Front, grown}
use Rattle.pair_search.specs.Fronts.{Shows, IsOnWay}
use Rattle.pair_search.specs.Groups.{IsSeen}
use Rattle.pair_search.specs.Search.{at, problem_of, tree_of, IsTree, IsBest}
use Rattle.pair_search.specs.Side.{side_slots, place_weight}
use Rattle.pair_search.specs.Visits.{Takes}
use Rattle.pair_search.proofs.VisitLemmas.{TreeLooks}
use Rattle.pair_search.proofs.tree.Tree.grow.Given as goal

abbrev pub invariant-loop-column : goal.invariant-loop-column
invariant-loop-column g l = record {
  slots : vec_len l.self.dist ≡ vec_len l.initial.self.dist;
  reach : ℕ;
  tree : IsTree (problem_of l.side (at l.initial.self.rows.items 0) l.before l.leave l.enter) (tree_of l.self l.size reach);
  best : IsBest (problem_of l.side (at l.initial.self.rows.items 0) l.before l.leave l.enter) (tree_of l.self l.size reach) l.best;
  shown : (next : List (Option ℕ)) (front : Front) → ((j : ℕ) → before_of next j ≡ next_of l.before j)
      → Shows l.initial.self 0 None (at l.leave (at l.initial.self.rows.items 0)) front
      → IsOnWay (place_weight l.side) (record { next = next; leave = l.leave; enter = l.enter })
      (grown (place_weight l.side) (record { next = next; leave = l.leave; enter = l.enter }) (side_slots l.side) front)
      l.size l.self.dist.items l.self.parent.items l.self.done.items l.self.rows.items l.best.from l.best.to l.best.fall;
  seen : IsSeen l.side l.enter l.self;
  visited : Takes (TreeLooks l.side l.self.rows.items l.size) l.initial.looks.list l.looks.list l.initial.steps l.steps;
  counted : l.steps + side_slots l.side ≤ l.initial.steps + side_slots l.side * l.size;
  alone : ((j : ℕ) → next_of l.before j ≡ None) → l.steps ≡ l.initial.steps;
}

abbrev pub decreases-loop-column : goal.decreases-loop-column
decreases-loop-column g l = side_slots l.side + 1 - l.size
