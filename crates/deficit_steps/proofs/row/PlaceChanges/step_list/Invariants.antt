use Rattle.std.proofs.Common.{◌≡◌}
use Rattle.trip_model.specs.Steps.{steps_before}
use Rattle.deficit_steps.specs.Changes.{value_in}
use Rattle.deficit_steps.proofs.RowLemmas.{sum_of}
use Rattle.deficit_steps.proofs.row.PlaceChanges.step_list.Given as goal

abbrev pub invariant-loop-minute : goal.invariant-loop-minute
invariant-loop-minute l = record {
  sum : l.value ≡ sum_of l.self l.minute;
  steps : l.list.items ≡ steps_before (value_in l.self) l.minute;
}
