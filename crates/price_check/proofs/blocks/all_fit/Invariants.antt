use Rattle.deadhead_matrix.specs.Fitting.{network_of}
use Rattle.price_check.specs.Reasons.{unfit}
use Rattle.price_check.proofs.First.{NoneBelow}
use Rattle.price_check.proofs.blocks.all_fit.Given as goal

abbrev pub invariant-loop-at : goal.invariant-loop-at
invariant-loop-at l = NoneBelow (unfit (network_of l.timetable l.matrix) l.rows) l.at
