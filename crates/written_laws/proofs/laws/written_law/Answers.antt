use Rattle.written_laws.proofs.ReadBack.{written-back}
use Rattle.written_laws.proofs.laws.written_law.Goals as goal

pub returns : goal.returns
returns c = written-back
