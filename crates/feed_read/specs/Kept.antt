-- What is kept of the stop times of each trip as the records of `stop_times.txt` are met.
use Rattle.std.specs.Prelude.{◌≡◌, ℕ, ◌||◌, nat_eq, Bool, false, List, [], ◌∷◌, ◌++◌, map, slice_get, slice_index_or, slice_set, Option}
use Rattle.std.specs.Prelude.{Some, None, option_map, Result, Ok, Err, if◌then◌else◌}
use Rattle.std.specs.List.{list_any}
use Rattle.gtfs_tables.specs.declared.fault.FeedFault.{FeedFault}
use Rattle.gtfs_tables.specs.declared.paper.Column.TheVariants as column
use Rattle.gtfs_tables.specs.declared.paper.Paper.TheVariants as paper
use Rattle.gtfs_tables.specs.Reading.{◌>>=◌, field_at, text_in, Fails}
use Rattle.gtfs_tables.specs.Entries.{Name}
use Rattle.trip_model.specs.Timetable.{number_of}
use Rattle.feed_read.specs.declared.stop_times.Columns.{Columns}
use Rattle.feed_read.specs.declared.stop_time.End.{End}
use Rattle.feed_read.specs.declared.trip_ends.TripEnds.{TripEnds}
use Rattle.feed_read.specs.FeedTrips.{sooner, later, first_stop_time, last_stop_time, has_repeat, sequences, stop_times_of}
use Rattle.feed_read.specs.StopTimes.{StopTimeView, stop_time_in}

-- what is kept of the stop times of one trip: the numbers along it, each once, and whether one came twice. Also the first and
-- the last stop time by these numbers
pub record Kept : Type 0 where
  pub sequences : List ℕ
  pub repeated : Bool
  pub first : Option StopTimeView
  pub last : Option StopTimeView

-- what is kept of no stop times
abbrev pub nothing_kept : Kept
nothing_kept = record { sequences = []; repeated = false; first = None; last = None }

-- rule: the first and the last stop of a trip
-- what is kept with one more stop time
abbrev pub with_kept : Kept → StopTimeView → Kept
with_kept kept stop_time = record {
  sequences = if list_any (nat_eq stop_time.sequence) kept.sequences then kept.sequences else kept.sequences ++ stop_time.sequence ∷ [];
  repeated = kept.repeated || list_any (nat_eq stop_time.sequence) kept.sequences;
  first = sooner kept.first stop_time;
  last = later kept.last stop_time;
}

-- what is kept of each trip, with the stop time of a record for the trip in that slot. Of a record of no selected trip nothing
-- is kept
abbrev pub with_kept_of : Columns → ℕ → List Kept → List (List ℕ) → Option ℕ → Result (List Kept) FeedFault
with_kept_of columns number before fields None = Ok before
with_kept_of columns number before fields (Some trip) =
    stop_time_in columns number trip fields >>=
    λ stop_time. Ok (slice_set before stop_time.trip (with_kept (slice_index_or before stop_time.trip nothing_kept) stop_time))

-- what is kept of each trip with that of one record, among selected trips of these names
unfoldable pub with_record_kept : List Name → Columns → ℕ → List Kept → List (List ℕ) → Result (List Kept) FeedFault
with_record_kept names columns number before fields = do
  name ← text_in paper.StopTimes number column.TripId (field_at fields columns.trip)
  with_kept_of columns number before fields (number_of names name)

-- what a clause sees of an end of a trip, and of what the program keeps
abbrev pub end_seen : End → StopTimeView
end_seen end = record { trip = end.trip; stop = end.stop; arrival = end.arrival; departure = end.departure; sequence = end.sequence }

abbrev pub trip_ends_seen : TripEnds → Kept
trip_ends_seen trip_ends = record {
  sequences = trip_ends.sequences.keys;
  repeated = trip_ends.repeated;
  first = option_map end_seen trip_ends.first;
  last = option_map end_seen trip_ends.last;
}

-- this is kept of these stop times
pub record AreTripEnds (stop_times : List StopTimeView) (kept : Kept) : Type 0 where
  pub numbers : kept.repeated ≡ false → kept.sequences ≡ sequences stop_times
  pub repeated : kept.repeated ≡ has_repeat (sequences stop_times)
  pub first : kept.first ≡ first_stop_time stop_times
  pub last : kept.last ≡ last_stop_time stop_times

-- this is kept of these stop times slot by slot
abbrev pub AreKept : List StopTimeView → List Kept → Type 0
AreKept stop_times kept = (slot : ℕ) (own : Kept) → slice_get kept slot ≡ Some own → AreTripEnds (stop_times_of slot stop_times) own

-- A call keeps what there is to keep of the stop times that their definition reads. Or it gives the refusal of that definition,
-- or it found no memory.
abbrev pub Keeps : {X : Type 0} → (X → List TripEnds) → Result X FeedFault → Result (List StopTimeView) FeedFault → Type 0
Keeps view (Ok x) (Ok stop_times) = AreKept stop_times (map trip_ends_seen (view x))
Keeps view (Ok x) (Err refused) = ⊥
Keeps view (Err refused) read = Fails refused read
