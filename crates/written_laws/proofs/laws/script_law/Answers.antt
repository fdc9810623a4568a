use Rattle.written_laws.proofs.Again.{script-leaves-whole}
use Rattle.written_laws.proofs.laws.script_law.Goals as goal

pub returns : goal.returns
returns c = script-leaves-whole
