-- What is written of a feed reads back, and which block it names.
use Rattle.std.specs.Prelude.{◌≡◌, ℕ, ◌<◌, Bool, true, List, [], length, slice_index_or, Ok}
use Rattle.csv.specs.Reading.{strip_bom}
use Rattle.gtfs_tables.specs.Table.{TableView, IsTable, table_of}
use Rattle.trip_model.specs.Blocking.{times, slots_in}
use Rattle.trip_model.specs.Timetable.{TimetableView}
use Rattle.block_build.specs.Names.{block_name}
use Rattle.block_writer.specs.StopTimes.{with_times, stop_times_written}
use Rattle.block_writer.specs.Trips.{is_in, name_of, number_in, with_blocks, trips_written}

-- the text of the trips, unless it begins with a byte-order mark, reads back as the table with the blocks
abbrev pub TripsReadBack : Type 0
TripsReadBack =
    (table : TableView) (timetable : TimetableView) (chosen : List Bool) (blocks names : List (List ℕ))
    → IsTable table
    → strip_bom (trips_written table timetable chosen blocks names) ≡ trips_written table timetable chosen blocks names
    → table_of (trips_written table timetable chosen blocks names) ≡ Ok (with_blocks table timetable chosen blocks names)

-- the text of the stop times, unless it begins with a byte-order mark, reads back as the table with the times moved
abbrev pub StopTimesReadBack : Type 0
StopTimesReadBack =
    (table : TableView) (timetable : TimetableView) (base : ℕ)
    → IsTable table
    → 0 < length table.header
    → strip_bom (stop_times_written table timetable base) ≡ stop_times_written table timetable base
    → table_of (stop_times_written table timetable base) ≡ Ok (with_times table timetable base)

-- the block of that number, from 0, is the one that has a slot
pub record IsBlockOf (blocks : List (List ℕ)) (s b : ℕ) : Type 0 where
  pub within : b < length blocks
  pub stands : is_in s (slice_index_or blocks b []) ≡ true
  pub alone : (k : ℕ) → k < length blocks → is_in s (slice_index_or blocks k []) ≡ true → k ≡ b

-- where a slot is once in the blocks, one block has it, and it is named as that one is printed
abbrev pub BlockIsNamed : Type 0
BlockIsNamed =
    (blocks : List (List ℕ)) (s : ℕ) (names : List (List ℕ))
    → times s (slots_in blocks) ≡ 1
    → (b : ℕ) × IsBlockOf blocks s b × (name_of names (number_in blocks s) ≡ block_name names b)
