use Rattle.written_laws.proofs.Chosen.{feed-names-slots}
use Rattle.written_laws.proofs.laws.services_law.Goals as goal

pub returns : goal.returns
returns c = feed-names-slots
