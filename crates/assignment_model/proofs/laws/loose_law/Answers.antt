use Rattle.assignment_model.proofs.Looseness.{IsCertified-loose, IsLoose-certified}
use Rattle.assignment_model.proofs.laws.loose_law.Goals as goal

pub returns-clause-certified : goal.returns-clause-certified
returns-clause-certified c = IsCertified-loose

pub returns-clause-loose : goal.returns-clause-loose
returns-clause-loose c = IsLoose-certified
