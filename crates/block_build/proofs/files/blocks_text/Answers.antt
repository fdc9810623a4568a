use Rattle.std.proofs.Common.{arith}
use Rattle.gtfs_tables.specs.Writing.{record_text}
use Rattle.block_build.specs.Files.{block_header}
use Rattle.block_build.proofs.FilesWritten.{records_numbered, records-more, blocks-written, if-text}
use Rattle.block_build.proofs.files.blocks_text.Goals as goal

pub loop-number-preserved : goal.loop-number-preserved
loop-number-preserved c =
    let named = c.args.named.now in
    record {
      written = records-more (records_numbered named.timetable.now named.matrix.now named.names.now named.blocks.now)
          (record_text block_header) c.loop-number.records c.push_block.new.records c.loop-number.number
          c.loop-number.invariant.written c.in_ok-push_block.ensures.written;
      text = c.in_ok-push_block.ensures.text c.loop-number.invariant.text;
    }

pub returns : goal.returns
returns c =
    let named = c.args.named.now in
    if-text c.into_text.result c.loop-number.records _ c.into_text.ensures.text
    (blocks-written named.timetable.now named.matrix.now named.names.now named.blocks.now c.loop-number.records c.loop-number.number
    (omega (arith, c.len-number-end.ensures.count)) c.loop-number.invariant.written)
