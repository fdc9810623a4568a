use Rattle.block_names.proofs.NamingLemmas.{are-numbered}
use Rattle.block_names.proofs.laws.numbered_law.Goals as goal

pub returns : goal.returns
returns c = are-numbered
