use Rattle.std.proofs.Common.{arith}
use Rattle.std.proofs.lemmas.Grind.{common_steps}
use Rattle.deadhead_matrix.proofs.through.first_row.Goals as goal

pub loop-to-init : goal.loop-to-init
loop-to-init c = grind (arith, common_steps)

pub returns : goal.returns
returns c = grind (arith, common_steps)
