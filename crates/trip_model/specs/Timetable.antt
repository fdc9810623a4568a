-- What a timetable is seen as, and what holds of each one.
use Rattle.std.specs.Prelude.{◌≢◌, ℕ, Bool, ◌≤◌, List, [], map, length, slice_index_or, slice_set, Option, position, All, AllPairs, false}
use Rattle.std.specs.Prelude.{pos, String, string_bytes}
use Rattle.std.specs.Str.{bytes_eq}
use Rattle.trip_model.specs.declared.limits.TheConstants.{MOST_PLACES, MOST_SLOTS, MOST_TOLERANCE}
use Rattle.trip_model.specs.declared.trip.Trip.{Trip}
use Rattle.trip_model.specs.declared.timetable.Post.{Post}
use Rattle.trip_model.specs.Place.{Place, IsPlace, place_in}
use Rattle.trip_model.specs.Trip.{IsValidTrip}

-- word: slot = trip index
-- a slot with its trip, live or cancelled
pub record Slot : Type 0 where
  pub name : List ℕ
  pub trip : Trip

-- a timetable: whether its vehicles are of classes, places and slots in the order of their numbers, and the default
-- tolerances in minutes
pub record TimetableView : Type 0 where
  pub classed : Bool
  pub places : List Place
  pub slots : List Slot
  pub early : ℕ
  pub late : ℕ

-- the names of the places, in order
abbrev pub place_names : TimetableView → List (List ℕ)
place_names timetable = map (λ p. p.name) timetable.places

-- the names of the trips, in order
abbrev pub slot_names : TimetableView → List (List ℕ)
slot_names timetable = map (λ s. s.name) timetable.slots

-- the number of a name in a list of names
abbrev pub number_of : List (List ℕ) → List ℕ → Option ℕ
number_of names name = position (bytes_eq name) names

-- the place of that number, and past the last one a place with no name
abbrev pub place_at : TimetableView → ℕ → Place
place_at timetable p = place_in timetable.places p

-- the slot of that number, and past the last one a slot with no name and a trip that does not run
abbrev pub slot_at : TimetableView → ℕ → Slot
slot_at timetable s = slice_index_or timetable.slots s
    (record { name = []; trip = record { from = 0; to = 0; departs = 0; ends = 0; offset = pos 0; early = 0; late = 0; live = false } })

-- the timetable with another trip in a slot, under the name that the slot has
abbrev pub with_trip : TimetableView → ℕ → Trip → TimetableView
with_trip timetable s trip = record timetable { slots = slice_set timetable.slots s (record (slot_at timetable s) { trip = trip }) }

-- no name comes twice
abbrev pub AreDistinct : List (List ℕ) → Type 0
AreDistinct names = AllPairs (λ x y. x ≢ y) names

-- at most 512 places, which are posts where it is classed, and at most 4,096 slots with valid trips. Default tolerances are at
-- most an hour, and names are distinct in each list
pub record IsTimetable (timetable : TimetableView) : Type 0 where
  pub place_names : AreDistinct (place_names timetable)
  pub slot_names : AreDistinct (slot_names timetable)
  pub each : All (IsPlace timetable.classed) timetable.places
  pub trips : All (λ s. IsValidTrip timetable.places s.trip) timetable.slots
  pub places : length timetable.places ≤ MOST_PLACES
  pub slots : length timetable.slots ≤ MOST_SLOTS
  pub early : timetable.early ≤ MOST_TOLERANCE
  pub late : timetable.late ≤ MOST_TOLERANCE

-- the place of a name with what it is besides
abbrev pub place_from : {Y : Type 0} → String Y × Post → Place
place_from entry = record { name = string_bytes entry.0; terminal = entry.1.terminal; class = entry.1.class; layover = entry.1.layover }

-- the places that a map from names holds in order
abbrev pub places_of : {Y : Type 0} → List (String Y × Post) → List Place
places_of entries = map place_from entries

-- the slots that a map from names to trips holds in order
abbrev pub slots_of : {Y : Type 0} → List (String Y × Trip) → List Slot
slots_of entries = map (λ e. record { name = string_bytes e.0; trip = e.1 }) entries

-- the timetable whose places and slots two maps hold
abbrev pub timetable_of : {Y : Type 0} → Bool → List (String Y × Post) → List (String Y × Trip) → ℕ → ℕ → TimetableView
timetable_of classed places trips early late =
    record { classed = classed; places = places_of places; slots = slots_of trips; early = early; late = late }
