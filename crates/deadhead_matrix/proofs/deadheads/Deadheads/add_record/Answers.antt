use Rattle.std.proofs.Common.{arith}
use Rattle.std.proofs.lemmas.Grind.{common_steps}
use Rattle.deadhead_matrix.proofs.deadheads.Deadheads.add_record.Goals as goal

pub loop-n-preserved : goal.loop-n-preserved
loop-n-preserved c = grind (arith, common_steps)

pub returns : goal.returns
returns c = grind (arith, common_steps)

pub returns-in_err-add : goal.returns-in_err-add
returns-in_err-add c = grind (arith, common_steps)
