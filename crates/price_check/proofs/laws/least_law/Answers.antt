use Rattle.price_check.proofs.LeastLemmas.{certificate-least}
use Rattle.price_check.proofs.laws.least_law.Goals as goal

pub returns : goal.returns
returns c = certificate-least
