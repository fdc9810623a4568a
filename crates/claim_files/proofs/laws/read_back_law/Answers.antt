use Rattle.claim_files.proofs.FilesBack.{written-back}
use Rattle.claim_files.proofs.laws.read_back_law.Goals as goal

pub returns : goal.returns
returns c = written-back
