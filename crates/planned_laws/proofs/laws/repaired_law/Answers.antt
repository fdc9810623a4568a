use Rattle.planned_laws.proofs.RepairLemmas.{repaired-is}
use Rattle.planned_laws.proofs.laws.repaired_law.Goals as goal

pub returns : goal.returns
returns c = repaired-is
