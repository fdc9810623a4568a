use Rattle.edit_script.proofs.FoldsLemmas.{standing-folds}
use Rattle.edit_script.proofs.laws.folds_law.Goals as goal

pub returns : goal.returns
returns c = standing-folds
