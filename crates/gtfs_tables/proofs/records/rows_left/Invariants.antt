use Rattle.std.proofs.Common.{◌≡◌, ◌++◌, length}
use Rattle.gtfs_tables.specs.Records.{reader_left, IsReader}
use Rattle.gtfs_tables.proofs.records.rows_left.Given as goal

abbrev pub invariant-records : goal.invariant-records
invariant-records l =
    (l.rows.items ++ reader_left l.reader ≡ reader_left l.fn.reader) × IsReader l.reader

abbrev pub decreases-records : goal.decreases-records
decreases-records l = length (reader_left l.reader)
