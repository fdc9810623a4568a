use Rattle.block_names.proofs.NamingLemmas.{are-names}
use Rattle.block_names.proofs.laws.naming_law.Goals as goal

pub returns : goal.returns
returns c = are-names
