use Rattle.std.proofs.Common.{◌≡◌, ◌+◌, ◌≤◌, length}
use Rattle.gtfs_tables.specs.declared.paper.TheConstants.{MOST_BYTES}
use Rattle.gtfs_tables.specs.Fold.{longer_from}
use Rattle.gtfs_tables.specs.Records.{records_left, IsReading}
use Rattle.gtfs_tables.proofs.fold.due_of.Given as goal

abbrev pub invariant-records : goal.invariant-records
invariant-records l = record {
  reading : IsReading l.reader;
  longer : longer_from l.width (l.number + 1) (records_left l.reader) ≡ longer_from l.width (l.fn.before + 1) (records_left l.fn.reader);
  count : l.number + length (records_left l.reader) ≤ MOST_BYTES;
  refused : l.refused ≡ l.fn.refused;
}

abbrev pub decreases-records : goal.decreases-records
decreases-records l = length (records_left l.reader)
