-- When a trip is valid, and what a deficit counts of it.
use Rattle.std.specs.Prelude.{◌≡◌, ◌<◌, ◌≤◌, List, length, ℤ, pos, neg_ℤ, ◌+ℤ◌, ◌-ℤ◌, ◌≤ℤ◌, unsigned_abs}
use Rattle.trip_model.specs.declared.limits.TheConstants.{LAST_DEPARTURE, LAST_END, MOST_TOLERANCE}
use Rattle.trip_model.specs.declared.trip.Trip.{Trip}
use Rattle.trip_model.specs.declared.trip.Move.{Move}
use Rattle.trip_model.specs.Place.{Place, class_of}

-- the trip leaves its first place as it departs, and arrives at its last place as it ends
abbrev pub move_of : Trip → Move
move_of trip = record { from = trip.from; to = trip.to; leaves = trip.departs; arrives = trip.ends }

-- the minute of the departure before the trip was moved
abbrev pub published_departure : Trip → ℤ
published_departure trip = pos trip.departs -ℤ trip.offset

-- the minute of the end before the trip was moved
abbrev pub published_end : Trip → ℤ
published_end trip = pos trip.ends -ℤ trip.offset

-- rule: which trips are valid
-- a trip between two of the places, which are of one class. It ends after it departs, and is moved within its tolerances of at
-- most an hour. It is published to depart by 99:59 and to end by 104:00
pub record IsValidTrip (places : List Place) (trip : Trip) : Type 0 where
  pub from : trip.from < length places
  pub to : trip.to < length places
  pub one_class : class_of places trip.from ≡ class_of places trip.to
  pub forward : trip.departs < trip.ends
  pub early : trip.early ≤ MOST_TOLERANCE
  pub late : trip.late ≤ MOST_TOLERANCE
  pub not_too_early : neg_ℤ (pos trip.early) ≤ℤ trip.offset
  pub not_too_late : trip.offset ≤ℤ pos trip.late
  pub departs_from_midnight : pos 0 ≤ℤ (published_departure trip)
  pub departs_in_day : (published_departure trip) ≤ℤ pos LAST_DEPARTURE
  pub ends_in_day : (published_end trip) ≤ℤ pos LAST_END

-- the trip moved by so many minutes
abbrev pub shifted : Trip → ℤ → Trip
shifted trip by = record trip {
  departs = unsigned_abs (pos trip.departs +ℤ by);
  ends = unsigned_abs (pos trip.ends +ℤ by);
  offset = trip.offset +ℤ by;
}

-- rule: a shift within the tolerances
-- the trip may be moved by so many minutes: then its offset is within its tolerances, and it departs at midnight or later
pub record MayShift (trip : Trip) (by : ℤ) : Type 0 where
  pub not_too_early : neg_ℤ (pos trip.early) ≤ℤ (trip.offset +ℤ by)
  pub not_too_late : (trip.offset +ℤ by) ≤ℤ pos trip.late
  pub departs : pos 0 ≤ℤ (pos trip.departs +ℤ by)
