use Rattle.std.proofs.Common.{◌≡◌, ◌++◌, map, take}
use Rattle.std.specs.Prelude.{IsUtf8}
use Rattle.gtfs_tables.specs.Writing.{records_text}
use Rattle.block_build.specs.Names.{block_name}
use Rattle.joined_deficits.specs.Boards.{board_record}
use Rattle.joined_deficits.proofs.boards.push_board.Given as goal

abbrev pub invariant-loop-leg : goal.invariant-loop-leg
invariant-loop-leg l = record {
  written : l.records ≡ l.initial.records
      ++ records_text (map (board_record l.named.timetable.now (block_name l.named.names.now l.number)) (take l.leg-index l.leg-items));
  text : IsUtf8 l.initial.records → IsUtf8 l.records;
}
