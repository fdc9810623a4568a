use Rattle.written_laws.proofs.Edits.{standing-follows}
use Rattle.written_laws.proofs.laws.follows_law.Goals as goal

pub returns : goal.returns
returns c = standing-follows
