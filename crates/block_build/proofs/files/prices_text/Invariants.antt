use Rattle.std.proofs.Common.{◌≡◌, ◌++◌}
use Rattle.std.specs.Prelude.{IsUtf8}
use Rattle.std.specs.List.{flat_map, range_with_len}
use Rattle.gtfs_tables.specs.Writing.{record_text, records_text}
use Rattle.block_build.specs.Files.{price_header, price_record}
use Rattle.block_build.proofs.files.prices_text.Given as goal

abbrev pub invariant-loop-slot : goal.invariant-loop-slot
invariant-loop-slot l = record {
  written : l.records ≡ record_text price_header
      ++ records_text (flat_map (price_record l.prices.timetable.now l.prices.leave.now l.prices.enter.now) (range_with_len 0 l.slot));
  text : IsUtf8 l.records;
}
