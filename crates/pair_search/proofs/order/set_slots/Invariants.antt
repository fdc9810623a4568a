use Rattle.std.proofs.Common.{◌≡◌, ◌-◌, ◌≤◌, vec_capacity, vec_len}
use Rattle.trip_model.specs.declared.limits.TheConstants.{MOST_SLOTS}
use Rattle.pair_search.specs.Order.{slot_at, place_of, IsRenaming}
use Rattle.pair_search.proofs.order.set_slots.Given as goal

abbrev pub invariant-slots : goal.invariant-slots
invariant-slots l = record {
  within : vec_len l.columns ≤ l.slots;
  columns : MOST_SLOTS ≤ vec_capacity l.columns;
  places : MOST_SLOTS ≤ vec_capacity l.places;
  same : vec_len l.places ≡ vec_len l.columns;
  renaming : IsRenaming (vec_len l.columns) (slot_at (vec_len l.columns) l.columns.items) (place_of (vec_len l.columns) l.places.items);
}

abbrev pub decreases-slots : goal.decreases-slots
decreases-slots l = l.slots - vec_len l.columns
