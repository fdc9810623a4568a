use Rattle.planned_laws.proofs.FirstLemmas.{first-is}
use Rattle.planned_laws.proofs.laws.first_law.Goals as goal

pub returns : goal.returns
returns c = λ t m likings is. first-is t m is.valid is.places is.pulls likings is.liked
