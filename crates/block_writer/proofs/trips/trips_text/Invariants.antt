use Rattle.std.proofs.Common.{◌≡◌, ◌++◌, [], get_or, map, false}
use Rattle.std.specs.List.{range_with_len}
use Rattle.gtfs_tables.specs.Writing.{record_text, records_text}
use Rattle.block_writer.specs.Trips.{header_written, trip_written}
use Rattle.block_writer.proofs.trips.trips_text.Given as goal

abbrev pub invariant-loop-before : goal.invariant-loop-before
invariant-loop-before l =
    l.records
    ≡ record_text (header_written l.block l.trips.header)
    ++ records_text (map (λ r. trip_written l.timetable l.numbers.items l.names l.trip l.block (get_or l.chosen r false)
    (get_or l.trips.rows r [])) (range_with_len 0 l.before))
