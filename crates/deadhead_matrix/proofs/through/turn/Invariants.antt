use Rattle.deadhead_matrix.specs.Rows.{IsTurn}
use Rattle.deadhead_matrix.proofs.through.turn.Given as goal

abbrev pub invariant-loop-start : goal.invariant-loop-start
invariant-loop-start l = IsTurn l.row l.via l.start l.initial.rows l.rows
