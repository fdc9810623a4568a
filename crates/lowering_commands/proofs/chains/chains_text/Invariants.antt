use Rattle.std.proofs.Common.{◌≡◌, ℕ, ◌+◌, ◌*◌, ◌≤◌, ◌++◌, List, length, pos}
use Rattle.std.specs.Prelude.{string_bytes, unsigned_abs}
use Rattle.trip_model.specs.Deficit.{live_moves}
use Rattle.trip_model.specs.declared.trip.Move.{Move}
use Rattle.deficit_steps.specs.Changes.{IsDeficits}
use Rattle.deficit_steps.specs.Holds.{Holds}
use Rattle.lowering_commands.specs.Chains.{IsChainsText}
use Rattle.lowering_commands.specs.Step.{sum_kept}
use Rattle.lowering_commands.proofs.chains.chains_text.Given as goal

abbrev pub invariant-loop-text : goal.invariant-loop-text
invariant-loop-text g l = record {
  moves : List Move;
  held : Holds l.deficits moves;
  valid : IsDeficits l.deficits;
  rows : length l.deficits ≡ length l.matrix.walks;
  sum : ℕ;
  sum_is : pos sum ≡ sum_kept l.deficits;
  few : length moves + 3 * sum ≤ 16384;
  number : l.number + sum ≤ length l.timetable.slots;
  counted : l.steps + 84 * sum ≤ l.fn.steps + 84 * length l.timetable.slots;
  text : (rest : List ℕ) → IsChainsText l.timetable l.matrix moves l.number rest
      → IsChainsText l.timetable l.matrix (live_moves l.timetable.slots) 0 (string_bytes l.text ++ rest);
}

abbrev pub decreases-loop-text : goal.decreases-loop-text
decreases-loop-text g l = unsigned_abs (sum_kept l.deficits)
