use Rattle.written_laws.proofs.Early.{early-writable}
use Rattle.written_laws.proofs.laws.early_law.Goals as goal

pub returns : goal.returns
returns c = early-writable
