use Rattle.std.proofs.Common.{◌≡◌, ◌*◌, ◌^◌, ◌≤◌, pos}
use Rattle.trip_model.specs.Maximum.{sum_of_maxima}
use Rattle.deficit_steps.specs.Changes.{value}
use Rattle.deficit_steps.proofs.deficits.Deficits.total.Given as goal

abbrev pub invariant-loop-row : goal.invariant-loop-row
invariant-loop-row l = (pos l.total ≡ sum_of_maxima (value l.self) l.row-index) × (l.total ≤ 2 ^ 32 * l.row-index)
