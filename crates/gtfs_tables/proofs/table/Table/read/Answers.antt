use Rattle.std.proofs.Common.{length, ap, arith}
use Rattle.gtfs_tables.proofs.CsvRecords.{length-records-le}
use Rattle.gtfs_tables.proofs.table.Table.read.Goals as goal

pub read_table-requires-clause-count : goal.read_table-requires-clause-count
read_table-requires-clause-count c =
    omega (arith, ap length c.records_of-reader.ensures.left, length-records-le c.args.bytes.now, c.requires)
