use Rattle.written_laws.proofs.Named.{names-are-stated}
use Rattle.written_laws.proofs.laws.names_law.Goals as goal

pub returns : goal.returns
returns c = names-are-stated
