use Rattle.claim_files.proofs.PlanClaimed.{certificate, accepted}
use Rattle.claim_files.proofs.laws.accepted_law.Goals as goal

pub returns-clause-certificate : goal.returns-clause-certificate
returns-clause-certificate c = certificate

pub returns-clause-accepted : goal.returns-clause-accepted
returns-clause-accepted c = accepted
