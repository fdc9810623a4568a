use Rattle.std.proofs.Common.{◌≡◌, ◌+◌, ◌≤◌, length}
use Rattle.gtfs_tables.specs.declared.paper.TheConstants.{MOST_BYTES}
use Rattle.gtfs_tables.specs.Records.{records_left, IsReading}
use Rattle.gtfs_tables.proofs.FoldLemmas.{ChangesOn, IsFolded}
use Rattle.gtfs_tables.proofs.fold.read_rest.Given as goal

abbrev pub invariant-records : goal.invariant-records
invariant-records g l = let reads = g.R.TracedReader in record {
  reading : IsReading l.reader;
  kept : reads.kept l.records ≡ reads.kept l.fn.records;
  folded : IsFolded l.paper l.width (reads.step (reads.kept l.fn.records) l.columns) (reads.Leaves (reads.kept l.fn.records) l.columns)
      (reads.state l.fn.records) (records_left l.fn.reader) l.number (reads.state l.records) (records_left l.reader);
  changed : ChangesOn l.width (reads.Changes (reads.kept l.fn.records) l.columns) (reads.state l.fn.records) (records_left l.fn.reader)
      (reads.state l.records) (records_left l.reader);
  count : l.number + length (records_left l.reader) ≤ MOST_BYTES;
}

abbrev pub decreases-records : goal.decreases-records
decreases-records g l = length (records_left l.reader)
