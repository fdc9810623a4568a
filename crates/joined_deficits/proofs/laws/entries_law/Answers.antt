use Rattle.joined_deficits.proofs.EntriesLemmas.{entries-take_time}
use Rattle.joined_deficits.proofs.laws.entries_law.Goals as goal

pub returns : goal.returns
returns c = entries-take_time
