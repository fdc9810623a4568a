use Rattle.deadhead_matrix.specs.Rows.{AreFirstRows}
use Rattle.deadhead_matrix.proofs.through.first_rows.Given as goal

abbrev pub invariant-loop-start : goal.invariant-loop-start
invariant-loop-start l = AreFirstRows l.start l.ways l.rows.items
