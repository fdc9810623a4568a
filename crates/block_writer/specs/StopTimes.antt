-- The records of `stop_times.txt`, written with the times of shifted trips moved.
use Rattle.std.specs.Prelude.{◌≡◌, ◌≢◌, ℕ, ◌+◌, ◌-◌, ◌*◌, ◌/◌, ◌%◌, ◌==◌, ◌&&◌, ℤ, pos, int_lt, unsigned_abs, List, [], ◌∷◌, ◌++◌, map}
use Rattle.std.specs.Prelude.{nat_lt, slice_set, Option, None, Some, Result, Ok, if◌then◌else◌}
use Rattle.gtfs_tables.specs.Reading.{◌>>=◌, place_of, field_at}
use Rattle.gtfs_tables.specs.Table.{TableView}
use Rattle.gtfs_tables.specs.Times.{seconds_of, two_digits}
use Rattle.gtfs_tables.specs.declared.fault.FeedFault.{FeedFault}
use Rattle.gtfs_tables.specs.declared.paper.Column.{Column}
use Rattle.gtfs_tables.specs.declared.paper.Column.TheVariants as column
use Rattle.gtfs_tables.specs.declared.paper.Paper.TheVariants as paper
use Rattle.trip_model.specs.Timetable.{TimetableView, slot_at}
use Rattle.block_writer.specs.declared.stop_times.Columns.{Columns}
use Rattle.block_writer.specs.Fields.{slot_in, table_text}
use Rattle.block_writer.specs.Texts.{texts_in, with_written}

-- rule: a time that is moved
-- a second of the service day moved by so many minutes, and not below midnight
abbrev pub moved : ℤ → ℕ → ℕ
moved offset seconds = if int_lt offset (pos 0) then seconds - 60 * unsigned_abs offset else seconds + 60 * unsigned_abs offset

-- a second of the service day as `HH:MM:SS`, with hours in at least two digits
abbrev pub time_digits : ℕ → List ℕ
time_digits seconds = two_digits (seconds / 3600) ++ 58 ∷ (two_digits (seconds / 60 % 60) ++ 58 ∷ two_digits (seconds % 60))

-- the moved time of a field; a field without a time stays as it is
abbrev pub moved_time : ℤ → List ℕ → Option ℕ → List ℕ
moved_time offset field None = field
moved_time offset field (Some seconds) = time_digits (moved offset seconds)

abbrev pub moved_field : ℤ → List ℕ → List ℕ
moved_field offset field = moved_time offset field (seconds_of field)

-- a record with the times of two columns moved
abbrev pub moved_row : ℤ → ℕ → ℕ → List (List ℕ) → List (List ℕ)
moved_row offset arrival departure row =
    slice_set (slice_set row arrival (moved_field offset (field_at row arrival))) departure (moved_field offset (field_at row departure))

-- by how many minutes the rows of a slot are moved: the offset of its trip, where that runs and has records
abbrev pub offset_of : TimetableView → ℕ → Option ℕ → ℤ
offset_of timetable base None = pos 0
offset_of timetable base (Some s) = if nat_lt s base && (slot_at timetable s).trip.live then (slot_at timetable s).trip.offset else pos 0

-- no rows are moved, whatever slot they are of
abbrev pub MovesNone : TimetableView → ℕ → Type 0
MovesNone timetable base = (slot : Option ℕ) → offset_of timetable base slot ≡ pos 0

-- the rows of some slot are moved
abbrev pub MovesSome : TimetableView → ℕ → Type 0
MovesSome timetable base = (slot : Option ℕ) × (offset_of timetable base slot ≢ pos 0)

-- a record with its times moved; where its trip is not shifted, as it came
abbrev pub moved_by : ℤ → ℕ → ℕ → List (List ℕ) → List (List ℕ)
moved_by offset arrival departure row = if unsigned_abs offset == 0 then row else moved_row offset arrival departure row

abbrev pub stop_time_written : TimetableView → ℕ → ℕ → ℕ → ℕ → List (List ℕ) → List (List ℕ)
stop_time_written timetable base trip arrival departure row =
    moved_by (offset_of timetable base (slot_in timetable trip row)) arrival departure row

-- rule: the stop times that are written
-- the table with the times of shifted trips moved
unfoldable pub with_times : TableView → TimetableView → ℕ → TableView
with_times table timetable base = record {
  header = table.header;
  rows = map (stop_time_written timetable base (place_of column.TripId table.header) (place_of column.ArrivalTime table.header)
      (place_of column.DepartureTime table.header)) table.rows;
}

-- the text of `stop_times_blocks.txt`
abbrev pub stop_times_written : TableView → TimetableView → ℕ → List ℕ
stop_times_written table timetable base = table_text (with_times table timetable base)

-- the columns of `stop_times.txt` that are known by their names
abbrev pub stop_time_columns : List Column
stop_time_columns = column.TripId ∷ column.ArrivalTime ∷ column.DepartureTime ∷ column.StopId ∷ column.StopSequence ∷ []

-- where the columns of a stop time are that may be moved, in a header of texts
unfoldable pub columns_in : List (List ℕ) → Result Columns FeedFault
columns_in header =
    texts_in paper.StopTimes stop_time_columns header 0 header
    >>= λ _. Ok (record {
      trip = place_of column.TripId header;
      arrival = place_of column.ArrivalTime header;
      departure = place_of column.DepartureTime header;
    })

-- what is known before the records: the timetable, how many of its slots have records, and the header
pub record Before : Type 0 where
  pub timetable : TimetableView
  pub base : ℕ
  pub header : List (List ℕ)

-- the text so far with one stop time more
abbrev pub with_stop_time : Before → Columns → ℕ → List ℕ → List (List ℕ) → Result (List ℕ) FeedFault
with_stop_time before columns number text row =
    with_written paper.StopTimes stop_time_columns before.header
    (stop_time_written before.timetable before.base columns.trip columns.arrival columns.departure) number text row
