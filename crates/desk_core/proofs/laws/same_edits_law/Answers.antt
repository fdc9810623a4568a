use Rattle.desk_core.proofs.StandingLemmas.{standing-equal}
use Rattle.desk_core.proofs.laws.same_edits_law.Goals as goal

pub returns : goal.returns
returns c = standing-equal
