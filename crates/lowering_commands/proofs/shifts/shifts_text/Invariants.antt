use Rattle.std.proofs.Common.{◌≡◌, ◌+◌, ◌*◌, ◌≤◌, ◌++◌, ℕ, List, length, pos}
use Rattle.std.specs.Prelude.{string_bytes, unsigned_abs}
use Rattle.trip_model.specs.Deficit.{live_moves}
use Rattle.trip_model.specs.Fleet.{deficit_sum}
use Rattle.deficit_steps.specs.Changes.{IsDeficits}
use Rattle.deficit_steps.specs.Holds.{Holds}
use Rattle.lowering_commands.specs.Shifts.{IsShiftsText, steps_of_search}
use Rattle.lowering_commands.proofs.shifts.shifts_text.Given as goal

abbrev pub invariant-loop-shift : goal.invariant-loop-shift
invariant-loop-shift g l = record {
  slots : length l.moved.slots ≡ length l.timetable.slots;
  held : Holds l.deficits (live_moves l.moved.slots);
  rows : length l.deficits ≡ length l.moved.places;
  valid : IsDeficits l.deficits;
  sum : pos (unsigned_abs (deficit_sum l.moved)) ≡ deficit_sum l.moved;
  number : l.number + unsigned_abs (deficit_sum l.moved) ≤ length l.timetable.slots;
  counted : let n = length l.timetable.slots in
      l.steps + (steps_of_search n + 56) * unsigned_abs (deficit_sum l.moved) ≤ l.fn.steps + (28 * n + (steps_of_search n + 56) * n);
  text : (rest : List ℕ) → IsShiftsText l.moved l.number rest → IsShiftsText l.timetable 0 (string_bytes l.text ++ rest);
}

abbrev pub decreases-loop-shift : goal.decreases-loop-shift
decreases-loop-shift g l = unsigned_abs (deficit_sum l.moved)
