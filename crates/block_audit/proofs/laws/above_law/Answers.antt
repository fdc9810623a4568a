use Rattle.block_audit.proofs.AboveLemmas.{says-standing, standing-least}
use Rattle.block_audit.proofs.laws.above_law.Goals as goal

pub returns-clause-says : goal.returns-clause-says
returns-clause-says c = says-standing

pub returns-clause-nothing : goal.returns-clause-nothing
returns-clause-nothing c = standing-least
