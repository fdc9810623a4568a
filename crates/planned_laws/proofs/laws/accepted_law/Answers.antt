use Rattle.planned_laws.proofs.AcceptedLemmas.{accepted-is, may-plan}
use Rattle.planned_laws.proofs.laws.accepted_law.Goals as goal

pub returns-clause-said : goal.returns-clause-said
returns-clause-said c = accepted-is

pub returns-clause-may : goal.returns-clause-may
returns-clause-may c = may-plan
