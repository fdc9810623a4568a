use Rattle.planned_laws.proofs.SearchLemmas.{found-is}
use Rattle.planned_laws.proofs.laws.found_law.Goals as goal

pub returns : goal.returns
returns c = found-is
