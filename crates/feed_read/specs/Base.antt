-- The timetable of a feed.
use Rattle.std.specs.Prelude.{ℕ, ◌<◌, nat_le, List, [], ◌∷◌, ◌++◌, length, map, fold, pos, true, unwrap_or, Result, Ok, ⊤, if◌then◌else◌}
use Rattle.std.specs.List.{flat_map}
use Rattle.desk_io.specs.declared.shelf.Found.{Found}
use Rattle.gtfs_tables.specs.declared.fault.FeedFault.{FeedFault}
use Rattle.gtfs_tables.specs.declared.fault.FeedFault.TheVariants as fault
use Rattle.gtfs_tables.specs.declared.paper.Paper.TheVariants as paper
use Rattle.gtfs_tables.specs.Reading.{◌>>=◌, provided}
use Rattle.gtfs_tables.specs.Entries.{Name}
use Rattle.trip_model.specs.declared.limits.TheConstants.{MOST_PLACES}
use Rattle.desk_settings.specs.Names.{is_among}
use Rattle.desk_settings.specs.Settings.{SettingsView, is_classed, layover_at}
use Rattle.trip_model.specs.declared.trip.Trip.{Trip}
use Rattle.trip_model.specs.Place.{Place, post_place, terminal_place}
use Rattle.trip_model.specs.Timetable.{TimetableView, Slot, number_of}
use Rattle.feed_read.specs.declared.feed_trip.FeedTrip.{FeedTrip}
use Rattle.feed_read.specs.Trips.{trips_in}
use Rattle.feed_read.specs.FeedTrips.{feed_trips_in}

-- the place of a terminal for vehicles of a class: a post where vehicles are of classes, else the terminal. It has the layover
-- of the terminal
abbrev pub place_of : SettingsView → Name → Name → Place
place_of settings terminal class =
    if is_classed settings then post_place terminal class (layover_at settings terminal)
    else terminal_place terminal (layover_at settings terminal)

-- the place from which a trip runs, and the place to which it runs
abbrev pub start_of : SettingsView → FeedTrip → Place
start_of settings feed_trip = place_of settings feed_trip.from feed_trip.class

abbrev pub end_of : SettingsView → FeedTrip → Place
end_of settings feed_trip = place_of settings feed_trip.to feed_trip.class

-- the places at which trips begin and end, trip by trip
abbrev pub ends_of : SettingsView → List FeedTrip → List Place
ends_of settings feed_trips = flat_map (λ feed_trip. start_of settings feed_trip ∷ end_of settings feed_trip ∷ []) feed_trips

-- the names of places
abbrev pub names_of : List Place → List Name
names_of places = map (λ place. place.name) places

-- places, and this one at the end if its name is new
abbrev pub with_place : List Place → Place → List Place
with_place places place = if is_among place.name (names_of places) then places else places ++ place ∷ []

-- rule: the numbers of places
-- the places that are met, each once, in the order in which they are met
abbrev pub places_met : List Place → List Place
places_met ends = fold with_place [] ends

-- the number of a place among places, by its name
abbrev pub number_in : List Place → Place → ℕ
number_in places place = unwrap_or (number_of (names_of places) place.name) 0

-- a trip between two places: live, and as published
abbrev pub trip_between : ℕ → ℕ → FeedTrip → Trip
trip_between from to feed_trip = record {
  from = from;
  to = to;
  departs = feed_trip.departs;
  ends = feed_trip.ends;
  offset = pos 0;
  early = feed_trip.early;
  late = feed_trip.late;
  live = true;
}

-- the slot of a trip, among these places
abbrev pub slot_of : SettingsView → List Place → FeedTrip → Slot
slot_of settings places feed_trip = record {
  name = feed_trip.name;
  trip = trip_between (number_in places (start_of settings feed_trip)) (number_in places (end_of settings feed_trip)) feed_trip;
}

-- these places, and a slot for each trip
abbrev pub timetable_over : SettingsView → List Place → List FeedTrip → TimetableView
timetable_over settings places feed_trips = record {
  classed = is_classed settings;
  places = places;
  slots = map (slot_of settings places) feed_trips;
  early = settings.early;
  late = settings.late;
}

-- rule: too many places
-- the timetable of trips between at most 512 places, which are numbered in the order in which the trips meet them
unfoldable pub timetable_of : SettingsView → List FeedTrip → Result TimetableView FeedFault
timetable_of settings feed_trips =
    let places = places_met (ends_of settings feed_trips) in
    provided (nat_le (length places) MOST_PLACES) (fault.TooManyPlaces paper.StopTimes) (Ok (timetable_over settings places feed_trips))

-- rule: the timetable of a feed
-- The base timetable: of `trips.txt` the selected trips, of `stop_times.txt` their stop times, and of these the timetable. What
-- comes first is judged first.
unfoldable pub base_of : SettingsView → Found → Found → Result TimetableView FeedFault
base_of settings trips_found stop_times_found = do
  selected ← trips_in settings trips_found
  feed_trips ← feed_trips_in settings selected stop_times_found
  timetable_of settings feed_trips

-- a refusal: there are too many places, or there was no memory
abbrev pub IsFullOrMemory : List Place → FeedFault → Type 0
IsFullOrMemory places fault.Memory = ⊤
IsFullOrMemory places (fault.TooManyPlaces paper.StopTimes) = MOST_PLACES < length places
IsFullOrMemory places _ = ⊥
