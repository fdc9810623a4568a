use Rattle.edit_script.proofs.EditBack.{line-back}
use Rattle.edit_script.proofs.laws.read_back_law.Goals as goal

pub returns : goal.returns
returns c = line-back
