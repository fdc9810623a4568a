use Rattle.likings_laws.proofs.NeighbourLemmas.{next-as-stated}
use Rattle.likings_laws.proofs.laws.neighbours_law.Goals as goal

pub returns : goal.returns
returns c = next-as-stated
