use Rattle.std.proofs.Common.{◌≡◌, ◌<◌, true, length, filter}
use Rattle.std.specs.Prelude.{All}
use Rattle.std.specs.List.{range_with_len}
use Rattle.std.specs.Option.{is_some}
use Rattle.trip_model.specs.Timetable.{slot_at}
use Rattle.trip_model.specs.Plain.{move_at, trip_moves}
use Rattle.trip_model.proofs.order.live_slots.Given as goal

abbrev pub invariant-loop-slot : goal.invariant-loop-slot
invariant-loop-slot l = record {
  taken : l.slots.items ≡ filter (λ s. is_some (move_at (trip_moves l.timetable.slots) s)) (range_with_len 0 l.slot);
  live : All (λ s. (slot_at l.timetable s).trip.live ≡ true) l.slots.items;
  within : All (λ s. s < length l.timetable.slots) l.slots.items;
}
