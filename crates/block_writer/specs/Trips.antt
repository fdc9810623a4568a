-- The records of `trips.txt`, written with the block of each selected trip.
use Rattle.std.specs.Prelude.{ℕ, ◌==◌, Bool, false, List, [], ◌∷◌, ◌++◌, length, map, nat_lt, slice_index_or, Option, None, Some}
use Rattle.std.specs.Prelude.{if◌then◌else◌}
use Rattle.std.specs.List.{list_any, position_from, range_with_len}
use Rattle.gtfs_tables.specs.Papers.{column_name_of}
use Rattle.gtfs_tables.specs.Table.{TableView}
use Rattle.gtfs_tables.specs.declared.paper.Column.TheVariants as column
use Rattle.gtfs_tables.specs.Reading.{place_of, field_at}
use Rattle.trip_model.specs.Timetable.{TimetableView, slot_at}
use Rattle.block_build.specs.Names.{block_name}
use Rattle.block_writer.specs.Fields.{with_field, slot_in, table_text}

-- whether the trip of a slot is one of a block
abbrev pub is_in : ℕ → List ℕ → Bool
is_in s block = list_any (λ x. x == s) block

-- the number, from 0, of the block that has a slot, the first if there are more
abbrev pub number_in : List (List ℕ) → ℕ → Option ℕ
number_in blocks s = position_from (is_in s) 0 blocks

-- the number of a slot after a block: the number of the block where the slot is in it, else the one that it had
abbrev pub numbered : Option ℕ → Bool → ℕ → Option ℕ
numbered None stands number = if stands then Some number else None
numbered (Some before) stands number = Some before

-- the number of its block for each of so many slots
abbrev pub block_numbers : ℕ → List (List ℕ) → List (Option ℕ)
block_numbers slots blocks = map (number_in blocks) (range_with_len 0 slots)

-- the name of the block of that number; empty where there is no block
abbrev pub name_of : List (List ℕ) → Option ℕ → List ℕ
name_of names None = []
name_of names (Some number) = block_name names number

-- the block of a selected trip: the name of the one that has its slot; empty where it does not run
abbrev pub block_of : TimetableView → List (Option ℕ) → List (List ℕ) → Option ℕ → List ℕ
block_of timetable numbers names None = []
block_of timetable numbers names (Some s) = if (slot_at timetable s).trip.live then name_of names (slice_index_or numbers s None) else []

-- a record with its block, where it is selected; any other as it came
abbrev pub trip_written : TimetableView → List (Option ℕ) → List (List ℕ) → ℕ → ℕ → Bool → List (List ℕ) → List (List ℕ)
trip_written timetable numbers names trip block chosen row =
    with_field row block (if chosen then block_of timetable numbers names (slot_in timetable trip row) else field_at row block)

-- the header, with `block_id` at its end where it names no such column
abbrev pub header_written : ℕ → List (List ℕ) → List (List ℕ)
header_written block header = if nat_lt block (length header) then header else header ++ column_name_of column.BlockId ∷ []

-- the records with their blocks, in their order; each is selected or not
abbrev pub trips_rows : TableView → TimetableView → List Bool → List (List ℕ) → List (List ℕ) → List (List (List ℕ))
trips_rows table timetable chosen blocks names =
    map
    (λ r. trip_written timetable (block_numbers (length timetable.slots) blocks) names (place_of column.TripId table.header)
    (place_of column.BlockId table.header)
    (slice_index_or chosen r false) (slice_index_or table.rows r []))
    (range_with_len 0 (length table.rows))

-- rule: the `block_id` that is written
-- the table with the blocks
unfoldable pub with_blocks : TableView → TimetableView → List Bool → List (List ℕ) → List (List ℕ) → TableView
with_blocks table timetable chosen blocks names = record {
  header = header_written (place_of column.BlockId table.header) table.header;
  rows = trips_rows table timetable chosen blocks names;
}

-- the text of `trips_blocks.txt`
abbrev pub trips_written : TableView → TimetableView → List Bool → List (List ℕ) → List (List ℕ) → List ℕ
trips_written table timetable chosen blocks names = table_text (with_blocks table timetable chosen blocks names)
