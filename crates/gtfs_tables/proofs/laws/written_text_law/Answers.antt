use Rattle.gtfs_tables.proofs.Written.{record-text}
use Rattle.gtfs_tables.proofs.laws.written_text_law.Goals as goal

pub returns : goal.returns
returns c = record-text
