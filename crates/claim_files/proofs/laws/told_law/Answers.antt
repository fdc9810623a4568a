use Rattle.claim_files.proofs.Told.{no-told}
use Rattle.claim_files.proofs.laws.told_law.Goals as goal

pub returns : goal.returns
returns c = λ t m claimed reason priced e. no-told t m claimed priced reason e
