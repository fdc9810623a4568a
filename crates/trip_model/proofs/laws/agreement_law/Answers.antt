use Rattle.std.proofs.Common.{refl, arith}
use Rattle.trip_model.proofs.MaximumLemmas.{first_maximum-agree}
use Rattle.trip_model.proofs.StepsLemmas.{steps-agree}
use Rattle.trip_model.proofs.laws.agreement_law.Goals as goal

pub returns-clause-maximum : goal.returns-clause-maximum
returns-clause-maximum c = first_maximum-agree

pub returns-clause-steps : goal.returns-clause-steps
returns-clause-steps c = λ d e same. steps-agree d e 8192 refl (λ t h. same t (omega arith))
