use Rattle.std.proofs.Common.{◌≡◌, ℕ, ◌+◌, ◌*◌, ◌<◌, ◌≤◌, ℤ}
use Rattle.shift_moves.specs.Lowering.{IsLowering}
use Rattle.shift_moves.proofs.search.next_shift.Given as goal

abbrev pub invariant-loop-slot : goal.invariant-loop-slot
invariant-loop-slot g l = record {
  unchanged : l.deficits ≡ l.initial.deficits;
  none : (slot : ℕ) (by : ℤ) → slot < l.slot → IsLowering l.timetable slot by → ⊥;
  counted : l.steps ≤ l.initial.steps + 4 * 28 * 120 * l.slot;
}
