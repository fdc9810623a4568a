-- The selected trips as the feed has them.
use Rattle.std.specs.Prelude.{◌≡◌, ℕ, ◌+◌, ◌<◌, ◌≤◌, Bool, false, not, ◌||◌, ◌==◌, nat_lt, nat_le, List, [], ◌∷◌, ◌++◌, length, map}
use Rattle.std.specs.Prelude.{filter, fold, slice_index_or, All, Contains, Option, Some, None, Result, Ok, Err, if◌then◌else◌}
use Rattle.std.specs.List.{list_any}
use Rattle.std.specs.Option.{ok_or}
use Rattle.desk_io.specs.declared.shelf.Found.{Found}
use Rattle.gtfs_tables.specs.declared.fault.FeedFault.{FeedFault}
use Rattle.gtfs_tables.specs.declared.fault.FeedFault.TheVariants as fault
use Rattle.gtfs_tables.specs.Reading.{◌>>=◌, provided, each_record}
use Rattle.gtfs_tables.specs.Times.{rounded_down, rounded_up}
use Rattle.gtfs_tables.specs.Entries.{Name}
use Rattle.trip_model.specs.declared.limits.TheConstants.{LAST_DEPARTURE, LAST_END, MOST_TOLERANCE}
use Rattle.trip_model.specs.Place.{has_slash}
use Rattle.desk_settings.specs.Settings.{SettingsView, terminal_of, layover_at, tolerance_of}
use Rattle.feed_read.specs.declared.feed_trip.FeedTrip.{FeedTrip}
use Rattle.feed_read.specs.Trips.{Selected}
use Rattle.feed_read.specs.StopTimes.{StopTimeView, stop_times_for}

-- the stop times of the trip of a slot
abbrev pub stop_times_of : ℕ → List StopTimeView → List StopTimeView
stop_times_of slot stop_times = filter (λ stop_time. stop_time.trip == slot) stop_times

-- the numbers of stop times along their trip
abbrev pub sequences : List StopTimeView → List ℕ
sequences stop_times = map (λ stop_time. stop_time.sequence) stop_times

-- whether a number comes twice
abbrev pub has_repeat : List ℕ → Bool
has_repeat [] = false
has_repeat (number ∷ numbers) = list_any (λ other. other == number) numbers || has_repeat numbers

-- the stop time of the lesser number, of the one that is least so far and another
abbrev pub sooner : Option StopTimeView → StopTimeView → Option StopTimeView
sooner None stop_time = Some stop_time
sooner (Some least) stop_time = if nat_lt stop_time.sequence least.sequence then Some stop_time else Some least

-- the stop time of the greater number, of the one that is greatest so far and another
abbrev pub later : Option StopTimeView → StopTimeView → Option StopTimeView
later None stop_time = Some stop_time
later (Some greatest) stop_time = if nat_lt greatest.sequence stop_time.sequence then Some stop_time else Some greatest

-- rule: the first and the last stop of a trip
-- the stop time of the least number along the trip
abbrev pub first_stop_time : List StopTimeView → Option StopTimeView
first_stop_time stop_times = fold sooner None stop_times

-- rule: the first and the last stop of a trip
-- the stop time of the greatest number along the trip
abbrev pub last_stop_time : List StopTimeView → Option StopTimeView
last_stop_time stop_times = fold later None stop_times

-- one of the stop times; none has a lesser number
pub record IsFirst (stop_times : List StopTimeView) (stop_time : StopTimeView) : Type 0 where
  pub one : Contains stop_times stop_time
  pub least : All (λ other. stop_time.sequence ≤ other.sequence) stop_times

-- one of the stop times; none has a greater number
pub record IsLast (stop_times : List StopTimeView) (stop_time : StopTimeView) : Type 0 where
  pub one : Contains stop_times stop_time
  pub greatest : All (λ other. other.sequence ≤ stop_time.sequence) stop_times

-- one time, or the other where that is empty
abbrev pub time_or : Option ℕ → Option ℕ → Option ℕ
time_or (Some seconds) other = Some seconds
time_or None other = other

-- rule: the layover of a trip
-- rule: the minutes of a trip
-- A trip of vehicles of a class from one stop time to another, which it leaves and reaches at these seconds. It departs rounded
-- down to the minute, and ends rounded up, after the layover of its last place.
abbrev pub feed_trip_at : SettingsView → Name → Name → StopTimeView → StopTimeView → ℕ → ℕ → FeedTrip
feed_trip_at settings name class first last departure arrival = record {
  name = name;
  class = class;
  from = terminal_of settings first.stop;
  to = terminal_of settings last.stop;
  departs = rounded_down departure;
  ends = rounded_up arrival + layover_at settings (terminal_of settings last.stop);
  early = (tolerance_of settings name).0;
  late = (tolerance_of settings name).1;
}

-- a trip between its first and its last stop time
unfoldable pub feed_trip_between : SettingsView → Name → Name → StopTimeView → StopTimeView → Result FeedTrip FeedFault
feed_trip_between settings name class first last = do
  departure ← ok_or (time_or first.departure first.arrival) (fault.NoTime name)
  arrival ← ok_or (time_or last.arrival last.departure) (fault.NoTime name)
  provided (nat_lt departure arrival) (fault.NotForward name) (Ok (feed_trip_at settings name class first last departure arrival))

-- a trip between its ends, if it has any
abbrev pub feed_trip_from : SettingsView → Name → Name → Option StopTimeView → Option StopTimeView → Result FeedTrip FeedFault
feed_trip_from settings name class (Some first) (Some last) = feed_trip_between settings name class first last
feed_trip_from settings name class _ _ = Err (fault.TooFewStops name)

-- rule: the order of refusals within a file
-- the trip of that name and class with these stop times. They are at least two, no two have one number, both ends have a time,
-- and the trip is forward
unfoldable pub feed_trip_of : SettingsView → Name → Name → List StopTimeView → Result FeedTrip FeedFault
feed_trip_of settings name class stop_times =
    provided (nat_le 2 (length stop_times)) (fault.TooFewStops name)
    (provided (not (has_repeat (sequences stop_times))) (fault.DuplicateSequence name)
    (feed_trip_from settings name class (first_stop_time stop_times) (last_stop_time stop_times)))

-- the trips, and that of the next slot, whose class is at that slot
abbrev pub with_feed_trip : SettingsView → List Name → List StopTimeView → ℕ → List FeedTrip → Name → Result (List FeedTrip) FeedFault
with_feed_trip settings classes stop_times slot before name =
    feed_trip_of settings name (slice_index_or classes slot []) (stop_times_of slot stop_times) >>=
    λ feed_trip. Ok (before ++ feed_trip ∷ [])

-- the selected trips, slot by slot
abbrev pub feed_trips_of : SettingsView → Selected → List StopTimeView → Result (List FeedTrip) FeedFault
feed_trips_of settings selected stop_times = each_record (with_feed_trip settings selected.classes stop_times) 0 [] selected.names

-- the selected trips, by their stop times in the file
abbrev pub feed_trips_in : SettingsView → Selected → Found → Result (List FeedTrip) FeedFault
feed_trips_in settings selected found = stop_times_for selected.names found >>= feed_trips_of settings selected

-- a trip ends after it departs, both on the service day. It may be moved by at most an hour each way, and its class has no `/`
pub record IsFeedTrip (feed_trip : FeedTrip) : Type 0 where
  pub forward : feed_trip.departs < feed_trip.ends
  pub departs : feed_trip.departs ≤ LAST_DEPARTURE
  pub ends : feed_trip.ends ≤ LAST_END
  pub early : feed_trip.early ≤ MOST_TOLERANCE
  pub late : feed_trip.late ≤ MOST_TOLERANCE
  pub class : has_slash feed_trip.class ≡ false
