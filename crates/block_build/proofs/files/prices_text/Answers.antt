use Rattle.std.proofs.Common.{arith}
use Rattle.gtfs_tables.specs.Writing.{record_text}
use Rattle.block_build.specs.Files.{price_header, price_record}
use Rattle.block_build.proofs.FilesWritten.{records-more, prices-written, if-text}
use Rattle.block_build.proofs.files.prices_text.Goals as goal

pub loop-slot-preserved : goal.loop-slot-preserved
loop-slot-preserved c = record {
  written = records-more
      (price_record c.args.prices.now.timetable.now c.args.prices.now.leave.now c.args.prices.now.enter.now) (record_text price_header)
      c.loop-slot.records c.push_prices.new.records c.loop-slot.slot c.loop-slot.invariant.written c.in_ok-push_prices.ensures.written;
  text = c.in_ok-push_prices.ensures.text c.loop-slot.invariant.text;
}

pub returns : goal.returns
returns c =
    if-text c.into_text.result c.loop-slot.records _ c.into_text.ensures.text
    (prices-written c.args.prices.now.timetable.now c.args.prices.now.leave.now c.args.prices.now.enter.now c.loop-slot.records
    c.loop-slot.slot (omega (arith, c.slots-slot-end.ensures.count)) c.loop-slot.invariant.written)
