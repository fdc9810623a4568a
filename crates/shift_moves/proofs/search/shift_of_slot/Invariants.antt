use Rattle.std.proofs.Common.{◌≡◌, ◌+◌, ◌-◌, ◌*◌, ◌<◌, ◌≤◌, ℤ}
use Rattle.std.specs.Prelude.{unsigned_abs}
use Rattle.shift_moves.specs.Lowering.{IsLowering}
use Rattle.shift_moves.specs.Trial.{tried}
use Rattle.shift_moves.proofs.search.shift_of_slot.Given as goal

abbrev pub invariant-loop-size : goal.invariant-loop-size
invariant-loop-size g l = record {
  unchanged : l.deficits ≡ l.initial.deficits;
  none : (by : ℤ) → unsigned_abs by < l.size → IsLowering l.timetable l.slot by → ⊥;
  counted : l.steps ≤ l.initial.steps + 112 * tried l.room.earlier l.room.later (l.size - 1);
}
