use Rattle.std.proofs.Common.{◌≡◌, ◌++◌}
use Rattle.std.specs.Prelude.{IsUtf8}
use Rattle.std.specs.List.{flat_map, range_with_len}
use Rattle.gtfs_tables.specs.Writing.{record_text, records_text}
use Rattle.joined_deficits.specs.Boards.{board_header}
use Rattle.joined_deficits.proofs.BoardsWritten.{board_numbered}
use Rattle.joined_deficits.proofs.boards.boards_text.Given as goal

abbrev pub invariant-loop-number : goal.invariant-loop-number
invariant-loop-number l = record {
  written : l.records ≡ record_text board_header
      ++ records_text (flat_map (board_numbered l.named.timetable.now l.named.matrix.now l.named.names.now l.named.blocks.now)
      (range_with_len 0 l.number));
  text : IsUtf8 l.records;
}
