use Rattle.gtfs_tables.proofs.Written.{records-back}
use Rattle.gtfs_tables.proofs.laws.read_back_law.Goals as goal

pub returns : goal.returns
returns c = records-back
