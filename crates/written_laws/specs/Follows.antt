-- A timetable that follows another: the trips of the other, which may be moved and cancelled, and further ones behind them.
use Rattle.std.specs.Prelude.{◌≡◌, ℕ, ◌<◌, All, length, take}
use Rattle.trip_model.specs.declared.trip.Trip.{Trip}
use Rattle.trip_model.specs.Timetable.{TimetableView, slot_at, slot_names}
use Rattle.trip_model.specs.Trip.{published_departure, published_end}

-- a trip has the ends, the published minutes and the tolerances of another; it may be moved, and it may not run
pub record IsSameTrip (trip now : Trip) : Type 0 where
  pub from : now.from ≡ trip.from
  pub to : now.to ≡ trip.to
  pub departs : published_departure now ≡ published_departure trip
  pub ends : published_end now ≡ published_end trip
  pub early : now.early ≡ trip.early
  pub late : now.late ≡ trip.late

-- a timetable has in its first slots the trips of another under their names
pub record IsEditedFrom (base standing : TimetableView) : Type 0 where
  pub names : take (length base.slots) (slot_names standing) ≡ slot_names base
  pub trips : (s : ℕ) → s < length base.slots → IsSameTrip (slot_at base s).trip (slot_at standing s).trip

-- each trip of a timetable ends after it departs
abbrev pub AreForward : TimetableView → Type 0
AreForward timetable = All (λ slot. slot.trip.departs < slot.trip.ends) timetable.slots
