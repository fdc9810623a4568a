use Rattle.deadhead_matrix.proofs.Standing.{network-standing}
use Rattle.deadhead_matrix.proofs.laws.no_entries_law.Goals as goal

pub returns : goal.returns
returns c = network-standing
