use Rattle.std.proofs.Common.{length, ap, ◌∙◌, arith}
use Rattle.block_build.proofs.FilesWritten.{if-text}
use Rattle.gtfs_tables.specs.Writing.{record_text}
use Rattle.gtfs_tables.specs.declared.paper.Column.TheVariants as column
use Rattle.gtfs_tables.specs.Reading.{place_of}
use Rattle.block_writer.specs.Trips.{header_written}
use Rattle.block_writer.proofs.FieldsWritten.{row-text}
use Rattle.block_writer.proofs.Numbered.{numbers-count, numbers-within}
use Rattle.block_writer.proofs.TablesWritten.{trip-more, trips-made}
use Rattle.block_writer.proofs.trips.trips_text.Goals as goal

pub push_trip-requires-clause-numbers : goal.push_trip-requires-clause-numbers
push_trip-requires-clause-numbers c =
    numbers-count c.deref.result.now c.in_ok-numbers.numbers.items (length c.args.timetable.now.slots) c.slots.result c.args.blocks.now
    c.deref.ensures.value c.in_ok-numbers.ensures c.slots.ensures.count

pub push_trip-requires-clause-named : goal.push_trip-requires-clause-named
push_trip-requires-clause-named c =
    numbers-within c.deref.result.now c.in_ok-numbers.numbers.items c.slots.result (length c.args.names.now) c.args.blocks.now
    c.deref.ensures.value c.in_ok-numbers.ensures c.requires.named

pub push_trip-requires-clause-text : goal.push_trip-requires-clause-text
push_trip-requires-clause-text c =
    row-text c.args.trips.now.rows c.row-row.result.now c.loop-before.before c.requires.texts.rows
    (omega (arith, c.records-before-end.ensures)) c.row-row.ensures.value

pub loop-before-preserved : goal.loop-before-preserved
loop-before-preserved c =
    trip-more c.args.timetable.now c.deref.result.now c.in_ok-numbers.numbers.items c.args.names.now c.place_of-trip.result
    c.place_of-block.result c.args.chosen.now c.args.trips.now.rows
    (record_text (header_written c.place_of-block.result c.args.trips.now.header)) c.loop-before.records c.push_trip.new.records
    c.loop-before.before c.row-row.result.now
    c.deref.ensures.value c.loop-before.invariant c.row-row.ensures.value c.in_ok-push_trip.ensures

pub returns : goal.returns
returns c =
    if-text c.into_bytes.result c.loop-before.records _ c.into_bytes.ensures.bytes
    (trips-made c.args.trips.now c.args.timetable.now c.args.chosen.now c.args.blocks.now c.args.names.now c.in_ok-numbers.numbers.items
    c.slots.result c.place_of-trip.result c.place_of-block.result
    c.loop-before.before c.loop-before.records c.in_ok-numbers.ensures c.slots.ensures.count
    (c.place_of-trip.ensures ∙ ap (place_of column.TripId) c.header-header.ensures)
    (c.place_of-block.ensures ∙ ap (place_of column.BlockId) c.header-header.ensures) (omega (arith, c.records-before-end.ensures))
    c.loop-before.invariant)
