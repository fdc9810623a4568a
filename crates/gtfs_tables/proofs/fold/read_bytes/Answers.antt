use Rattle.std.proofs.Common.{length, ap, arith}
use Rattle.gtfs_tables.proofs.CsvRecords.{length-records-le}
use Rattle.gtfs_tables.proofs.fold.read_bytes.Goals as goal

pub read_from-requires-clause-count : goal.read_from-requires-clause-count
read_from-requires-clause-count g c =
    omega (arith, ap length c.records_of-reader.ensures.left, length-records-le c.args.bytes.now, c.requires)
