use Rattle.feed_names.proofs.NamesSaid.{said-names}
use Rattle.feed_names.proofs.laws.names_law.Goals as goal

pub returns : goal.returns
returns c = said-names
