use Rattle.assignment_model.proofs.Duality.{IsLeast-certified}
use Rattle.assignment_model.proofs.laws.certified_law.Goals as goal

pub returns : goal.returns
returns c = IsLeast-certified
