use Rattle.std.proofs.Common.{◌≡◌, ℕ, ◌+◌, ◌-◌, ◌*◌, ◌<◌, ◌≤◌, drop, length, replicate, None}
use Rattle.assignment_model.specs.Prices.{Plan}
use Rattle.pair_search.specs.Arranged.{slots_of, bare}
use Rattle.pair_search.specs.Assignment.{IsMatched, Covers}
use Rattle.pair_search.specs.Determined.{found_each}
use Rattle.pair_search.specs.Inverse.{IsInverse}
use Rattle.pair_search.specs.Order.{slot_at, stands_before, IsRenaming}
use Rattle.pair_search.specs.Side.{side_slots, place_weight}
use Rattle.pair_search.specs.Visits.{AreSearches, Takes}
use Rattle.pair_search.proofs.search.link_rows.Given as goal

abbrev pub invariant-loop-added : goal.invariant-loop-added
invariant-loop-added g l = record {
  turn : ℕ → ℕ;
  renaming : IsRenaming (side_slots l.side) (slot_at (side_slots l.side) l.departures) turn;
  matched : IsMatched (place_weight l.side) (stands_before turn (side_slots l.side - l.added)) None None l.next l.leave l.enter;
  covers : Covers (place_weight l.side) (stands_before turn (side_slots l.side - l.added)) None l.leave l.enter;
  plan : ◌≡◌ {A = Plan} (record { next = l.next; leave = l.leave; enter = l.enter })
      (found_each (place_weight l.side) (drop (side_slots l.side - l.added) (slots_of l.departures)) (bare (side_slots l.side)));
  visited : Takes (AreSearches l.added l.side) l.initial.looks.list l.looks.list l.initial.steps l.steps;
  inverse : IsInverse (length l.next) l.next l.before;
  begun : l.added ≡ 0 → (l.next ≡ replicate (side_slots l.side) None) × (l.steps ≡ l.initial.steps);
  counted : 0 < l.added → l.steps + side_slots l.side * side_slots l.side
      ≤ l.initial.steps + l.added * (side_slots l.side * side_slots l.side + side_slots l.side);
}
