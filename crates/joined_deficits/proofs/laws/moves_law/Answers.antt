use Rattle.joined_deficits.proofs.LegLemmas.{joined-few, joined-move}
use Rattle.joined_deficits.proofs.laws.moves_law.Goals as goal

pub returns-clause-valid : goal.returns-clause-valid
returns-clause-valid c = joined-move

pub returns-clause-few : goal.returns-clause-few
returns-clause-few c = joined-few
