use Rattle.deadhead_matrix.specs.Rows.{AreNearer}
use Rattle.deadhead_matrix.proofs.through.lead_through.Given as goal

abbrev pub invariant-loop-to : goal.invariant-loop-to
invariant-loop-to l = AreNearer l.row l.from l.to l.initial.dist l.dist
