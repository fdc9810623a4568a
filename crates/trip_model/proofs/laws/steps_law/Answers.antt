use Rattle.std.proofs.Common.{refl, arith}
use Rattle.trip_model.proofs.StepsLemmas.{value_of_steps-steps}
use Rattle.trip_model.proofs.laws.steps_law.Goals as goal

pub returns : goal.returns
returns c = λ d t h. value_of_steps-steps d 8192 t refl (omega arith)
