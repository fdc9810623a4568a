use Rattle.deadhead_matrix.specs.Fitting.{network_of}
use Rattle.price_check.specs.Reasons.{differing}
use Rattle.price_check.proofs.First.{NoneBelow}
use Rattle.price_check.proofs.blocks.all_shown.Given as goal

abbrev pub invariant-loop-at : goal.invariant-loop-at
invariant-loop-at l = NoneBelow (differing (network_of l.timetable l.matrix) l.rows) l.at
