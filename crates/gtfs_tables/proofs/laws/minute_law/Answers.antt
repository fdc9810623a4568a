use Rattle.gtfs_tables.proofs.Minutes.{minute-back}
use Rattle.gtfs_tables.proofs.laws.minute_law.Goals as goal

pub returns : goal.returns
returns c = minute-back
