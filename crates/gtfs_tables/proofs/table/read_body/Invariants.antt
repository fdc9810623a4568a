use Rattle.std.proofs.Common.{length}
use Rattle.gtfs_tables.specs.Records.{records_left, IsReading}
use Rattle.gtfs_tables.proofs.Body.{IsReadSoFar}
use Rattle.gtfs_tables.proofs.table.read_body.Given as goal

abbrev pub invariant-records : goal.invariant-records
invariant-records l = IsReadSoFar l.width (records_left l.fn.reader) l.rows.items (records_left l.reader) × IsReading l.reader

abbrev pub decreases-records : goal.decreases-records
decreases-records l = length (records_left l.reader)
