use Rattle.std.proofs.Common.{◌≡◌, ◌++◌, map}
use Rattle.std.specs.Prelude.{IsUtf8}
use Rattle.std.specs.List.{range_with_len}
use Rattle.gtfs_tables.specs.Writing.{records_text}
use Rattle.block_build.specs.Files.{block_record}
use Rattle.block_build.specs.Names.{block_name}
use Rattle.block_build.proofs.files.push_block.Given as goal

abbrev pub invariant-loop-n : goal.invariant-loop-n
invariant-loop-n l = record {
  written : l.records ≡ l.initial.records
      ++ records_text (map (block_record l.named.timetable.now l.named.matrix.now (block_name l.named.names.now l.number) l.block)
      (range_with_len 0 l.n));
  text : IsUtf8 l.initial.records → IsUtf8 l.records;
}
