use Rattle.std.proofs.Common.{◌≡◌}
use Rattle.deficit_steps.proofs.RowLemmas.{sum_of}
use Rattle.deficit_steps.proofs.row.PlaceChanges.value_at.Given as goal

abbrev pub invariant-loop-m : goal.invariant-loop-m
invariant-loop-m l = l.value ≡ sum_of l.self l.m
