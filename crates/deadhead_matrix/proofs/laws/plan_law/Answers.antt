use Rattle.deadhead_matrix.proofs.PlanLemmas.{IsLeast-plan}
use Rattle.deadhead_matrix.proofs.laws.plan_law.Goals as goal

pub returns : goal.returns
returns c = IsLeast-plan
