-- The records of `stop_times.txt` that belong to selected trips.
use Rattle.std.specs.Prelude.{ℕ, List, [], ◌∷◌, ◌++◌, Option, Some, None, Result, Ok}
use Rattle.desk_io.specs.declared.shelf.Found.{Found}
use Rattle.gtfs_tables.specs.declared.fault.FeedFault.{FeedFault}
use Rattle.gtfs_tables.specs.declared.paper.Column.TheVariants as column
use Rattle.gtfs_tables.specs.declared.paper.Paper.TheVariants as paper
use Rattle.gtfs_tables.specs.Fold.{paper_read}
use Rattle.gtfs_tables.specs.Reading.{◌>>=◌, column_in, field_at, text_in, filled_in, number_in, time_in}
use Rattle.gtfs_tables.specs.Entries.{Name}
use Rattle.trip_model.specs.Timetable.{number_of}
use Rattle.feed_read.specs.declared.stop_times.Columns.{Columns}
use Rattle.feed_read.specs.declared.stop_time.StopTime.{StopTime}

-- a record: the slot of its trip, its stop, its times in seconds where they are there, and its number along the trip
pub record StopTimeView : Type 0 where
  pub trip : ℕ
  pub stop : Name
  pub arrival : Option ℕ
  pub departure : Option ℕ
  pub sequence : ℕ

-- what a clause sees of a stop time
abbrev pub seen : StopTime → StopTimeView
seen stop_time = record {
  trip = stop_time.trip;
  stop = stop_time.stop.now;
  arrival = stop_time.arrival;
  departure = stop_time.departure;
  sequence = stop_time.sequence;
}

-- where the required columns are
unfoldable pub columns_in : List (List ℕ) → Result Columns FeedFault
columns_in header = do
  trip ← column_in paper.StopTimes column.TripId header
  arrival ← column_in paper.StopTimes column.ArrivalTime header
  departure ← column_in paper.StopTimes column.DepartureTime header
  stop ← column_in paper.StopTimes column.StopId header
  sequence ← column_in paper.StopTimes column.StopSequence header
  Ok (record { trip = trip; arrival = arrival; departure = departure; stop = stop; sequence = sequence })

-- the record of the trip of a slot
unfoldable pub stop_time_in : Columns → ℕ → ℕ → List (List ℕ) → Result StopTimeView FeedFault
stop_time_in columns number trip fields = do
  arrival_text ← text_in paper.StopTimes number column.ArrivalTime (field_at fields columns.arrival)
  departure_text ← text_in paper.StopTimes number column.DepartureTime (field_at fields columns.departure)
  stop ← text_in paper.StopTimes number column.StopId (field_at fields columns.stop)
  sequence_text ← text_in paper.StopTimes number column.StopSequence (field_at fields columns.sequence)
  _ ← filled_in paper.StopTimes number column.StopId stop
  _ ← filled_in paper.StopTimes number column.StopSequence sequence_text
  sequence ← number_in paper.StopTimes number column.StopSequence 9 999999999 sequence_text
  arrival ← time_in paper.StopTimes number column.ArrivalTime arrival_text
  departure ← time_in paper.StopTimes number column.DepartureTime departure_text
  Ok (record { trip = trip; stop = stop; arrival = arrival; departure = departure; sequence = sequence })

-- the stop times, and that of a record of the trip of that slot; of a record of no selected trip nothing more is examined
abbrev pub with_stop_time_of : Columns → ℕ → List StopTimeView → List (List ℕ) → Option ℕ → Result (List StopTimeView) FeedFault
with_stop_time_of columns number before fields None = Ok before
with_stop_time_of columns number before fields (Some trip) =
    stop_time_in columns number trip fields >>= λ stop_time. Ok (before ++ stop_time ∷ [])

-- rule: the order of refusals within a file
-- the stop times with that of one record, among selected trips of these names
unfoldable pub with_stop_time : List Name → Columns → ℕ → List StopTimeView → List (List ℕ) → Result (List StopTimeView) FeedFault
with_stop_time names columns number before fields = do
  name ← text_in paper.StopTimes number column.TripId (field_at fields columns.trip)
  with_stop_time_of columns number before fields (number_of names name)

-- the stop times of the file, in the order of its records
abbrev pub stop_times_for : List Name → Found → Result (List StopTimeView) FeedFault
stop_times_for names found = paper_read paper.StopTimes columns_in (with_stop_time names) [] found
