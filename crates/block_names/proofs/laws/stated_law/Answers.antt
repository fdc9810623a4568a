use Rattle.block_names.proofs.StatedLemmas.{stated-kept}
use Rattle.block_names.proofs.laws.stated_law.Goals as goal

pub returns : goal.returns
returns c = stated-kept
