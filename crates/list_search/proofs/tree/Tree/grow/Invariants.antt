use Rattle.std.proofs.Common.{◌≡◌, ℕ, ◌+◌, ◌-◌, ◌≤◌, List, Option, None}
use Rattle.std.specs.Prelude.{vec_len}
use Rattle.trip_model.specs.Links.{next_of, before_of}
use Rattle.pair_search.specs.Determined.{Front, grown}
use Rattle.pair_search.specs.Fronts.{IsShown, IsOnWay}
use Rattle.pair_search.specs.Search.{at, problem, IsTree, IsBest}
use Rattle.pair_search.specs.declared.limits.TheConstants.{FAR}
use Rattle.list_search.specs.Lists.{listed}
use Rattle.list_search.specs.Trees.{tree_of, AreNear}
use Rattle.list_search.proofs.tree.Tree.grow.Given as goal

abbrev pub invariant-loop-column : goal.invariant-loop-column
invariant-loop-column l = record {
  slots : vec_len l.self.dist ≡ vec_len l.initial.self.dist;
  reach : ℕ;
  tree : IsTree (problem (listed l.lists) l.lists.slots l.a l.before l.leave l.enter) (tree_of l.self l.size reach);
  best : IsBest (problem (listed l.lists) l.lists.slots l.a l.before l.leave l.enter) (tree_of l.self l.size reach) l.best;
  most : (j : ℕ) → at l.self.dist.items j ≤ FAR;
  near : AreNear l.self.done.items l.self.dist.items l.self.near.items;
  shown : (next : List (Option ℕ)) (front : Front) → ((j : ℕ) → before_of next j ≡ next_of l.before j)
      → IsShown l.initial.self.dist.items l.initial.self.parent.items l.initial.self.done.items l.initial.self.rows.items 0 None
      (at l.leave l.a) front
      → IsOnWay (listed l.lists) (record { next = next; leave = l.leave; enter = l.enter })
      (grown (listed l.lists) (record { next = next; leave = l.leave; enter = l.enter }) l.lists.slots front)
      l.size l.self.dist.items l.self.parent.items l.self.done.items l.self.rows.items l.best.from l.best.to l.best.fall;
}

abbrev pub decreases-loop-column : goal.decreases-loop-column
decreases-loop-column l = l.lists.slots + 1 - l.size
