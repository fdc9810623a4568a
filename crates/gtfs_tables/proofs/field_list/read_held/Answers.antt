use Rattle.gtfs_tables.proofs.CsvRecords.{reads-next}
use Rattle.gtfs_tables.proofs.field_list.read_held.Goals as goal

pub returns-in-Ok : goal.returns-in-Ok
returns-in-Ok c =
    let reading = c.requires in
    reads-next c.args.reader.now c.read_byte_record.new.self c.in-Ok.found _ reading (c.in-Ok.ensures.ready reading.untrimmed)
    c.in-Ok.ensures.flexible (c.in-Ok.ensures.reads reading.untrimmed reading.ready)
