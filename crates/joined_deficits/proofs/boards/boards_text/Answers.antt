use Rattle.std.proofs.Common.{arith}
use Rattle.gtfs_tables.specs.Writing.{record_text}
use Rattle.block_build.proofs.FilesWritten.{records-more, if-text}
use Rattle.joined_deficits.specs.Boards.{board_header}
use Rattle.joined_deficits.proofs.BoardsWritten.{board_numbered, boards-written}
use Rattle.joined_deficits.proofs.boards.boards_text.Goals as goal

pub loop-number-preserved : goal.loop-number-preserved
loop-number-preserved c =
    let named = c.args.named.now in
    record {
      written = records-more (board_numbered named.timetable.now named.matrix.now named.names.now named.blocks.now)
          (record_text board_header) c.loop-number.records c.push_board.new.records c.loop-number.number
          c.loop-number.invariant.written c.in_ok-push_board.ensures.written;
      text = c.in_ok-push_board.ensures.text c.loop-number.invariant.text;
    }

pub returns : goal.returns
returns c =
    let named = c.args.named.now in
    if-text c.into_text.result c.loop-number.records _ c.into_text.ensures.text
    (boards-written named.timetable.now named.matrix.now named.names.now named.blocks.now c.loop-number.records c.loop-number.number
    (omega (arith, c.len-number-end.ensures.count)) c.loop-number.invariant.written)
