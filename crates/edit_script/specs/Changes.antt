-- What an edit of a trip does to a timetable, and why it is refused.
use Rattle.std.specs.Prelude.{◌≡◌, ℕ, ◌+◌, ◌<◌, ◌&&◌, ℤ, pos, neg_ℤ, ◌+ℤ◌, Bool, true, false, not, List, [], ◌∷◌, ◌++◌, length, Option}
use Rattle.std.specs.Prelude.{Some, None, Result, Ok, Err, int_le, nat_lt, ⊤, if◌then◌else◌}
use Rattle.std.specs.Str.{bytes_eq}
use Rattle.trip_model.specs.declared.limits.TheConstants.{MOST_SLOTS}
use Rattle.trip_model.specs.declared.trip.Trip.{Trip}
use Rattle.trip_model.specs.Fleet.{with_shift}
use Rattle.trip_model.specs.Place.{class_of}
use Rattle.trip_model.specs.Timetable.{TimetableView, number_of, place_at, place_names, slot_at, slot_names, with_trip}
use Rattle.edit_script.specs.declared.edit.Edit.{Edit}
use Rattle.edit_script.specs.declared.edit.Edit.TheVariants.{Shift, Cancel, Restore, Extra, Undo, Redo, Show}
use Rattle.edit_script.specs.declared.fault.EditFault.{EditFault}
use Rattle.edit_script.specs.declared.fault.EditFault.TheVariants as fault
use Rattle.edit_script.specs.declared.fault.TripEnd.TheVariants as side

-- what is done where a fact holds, and else the refusal
abbrev pub provided : Bool → EditFault → Result TimetableView EditFault → Result TimetableView EditFault
provided holds refused rest = if holds then rest else Err refused

-- rule: a shift within the tolerances
-- a number of minutes off its published times is within the tolerances of a trip
abbrev pub is_within : Trip → ℤ → Bool
is_within trip offset = int_le (neg_ℤ (pos trip.early)) offset && int_le offset (pos trip.late)

-- the timetable with the trip in a slot cancelled, or running again
abbrev pub with_live : TimetableView → ℕ → Bool → TimetableView
with_live t s live = with_trip t s (record (slot_at t s).trip { live = live })

-- the timetable with one more slot
abbrev pub with_extra : TimetableView → List ℕ → Trip → TimetableView
with_extra t name trip = record t { slots = t.slots ++ record { name = name; trip = trip } ∷ [] }

-- the trip in a slot that may be there, moved by so many minutes
abbrev pub shifted_at : TimetableView → ℤ → Option ℕ → Result TimetableView EditFault
shifted_at t by None = Err fault.UnknownTrip
shifted_at t by (Some s) =
    provided (slot_at t s).trip.live fault.NotLive (
    provided (is_within (slot_at t s).trip ((slot_at t s).trip.offset +ℤ by)) (fault.OutsideTolerance ((slot_at t s).trip.offset +ℤ by)) (
    provided (int_le (pos 0) (pos (slot_at t s).trip.departs +ℤ by)) fault.BeforeMidnight (
    Ok (with_shift t s by))))

abbrev pub cancelled_at : TimetableView → Option ℕ → Result TimetableView EditFault
cancelled_at t None = Err fault.UnknownTrip
cancelled_at t (Some s) = provided (slot_at t s).trip.live fault.NotLive (Ok (with_live t s false))

abbrev pub restored_at : TimetableView → Option ℕ → Result TimetableView EditFault
restored_at t None = Err fault.UnknownTrip
restored_at t (Some s) = provided (not (slot_at t s).trip.live) fault.NotCancelled (Ok (with_live t s true))

-- rule: the layover of a trip
-- an extra trip between two places
abbrev pub extra_trip : TimetableView → ℕ → ℕ → ℕ → ℕ → Trip
extra_trip t from to departs arrives = record {
  from = from;
  to = to;
  departs = departs;
  ends = arrives + (place_at t to).layover;
  offset = pos 0;
  early = t.early;
  late = t.late;
  live = true;
}

-- rule: too many trips
-- an extra trip to a place that may be there, from one that is
abbrev pub extra_to : TimetableView → List ℕ → ℕ → ℕ → ℕ → Option ℕ → Result TimetableView EditFault
extra_to t name departs arrives from None = Err (fault.UnknownPlace side.To)
extra_to t name departs arrives from (Some to) =
    provided (bytes_eq (class_of t.places from) (class_of t.places to)) fault.ClassesDiffer (
    provided (nat_lt departs arrives) fault.NotForward (
    provided (nat_lt (length t.slots) MOST_SLOTS) fault.TooManyTrips (
    Ok (with_extra t name (extra_trip t from to departs arrives)))))

abbrev pub extra_from : TimetableView → List ℕ → List ℕ → ℕ → ℕ → Option ℕ → Result TimetableView EditFault
extra_from t name to departs arrives None = Err (fault.UnknownPlace side.From)
extra_from t name to departs arrives (Some from) = extra_to t name departs arrives from (number_of (place_names t) to)

-- rule: two trips of one name
-- an extra trip, where no slot has its name
abbrev pub extra_new : TimetableView → List ℕ → List ℕ → List ℕ → ℕ → ℕ → Option ℕ → Result TimetableView EditFault
extra_new t name from to departs arrives (Some s) = Err fault.TripExists
extra_new t name from to departs arrives None = extra_from t name to departs arrives (number_of (place_names t) from)

-- rule: why an edit is refused, and what it does
-- the timetable after an edit of a trip, or why it is refused; the other edits edit no trip
abbrev pub edited : TimetableView → Edit → Result TimetableView EditFault
edited t (Shift trip by) = shifted_at t by (number_of (slot_names t) trip)
edited t (Cancel trip) = cancelled_at t (number_of (slot_names t) trip)
edited t (Restore trip) = restored_at t (number_of (slot_names t) trip)
edited t (Extra trip from to departs arrives) = extra_new t trip from to departs arrives (number_of (slot_names t) trip)
edited t Undo = Ok t
edited t Redo = Ok t
edited t Show = Ok t

-- the slot of the trip that an edit of a trip names, which is there; that of an extra trip is a new last one
abbrev pub IsSlotNamed : List ℕ → TimetableView → Option ℕ → Type 0
IsSlotNamed trip t None = ⊥
IsSlotNamed trip t (Some s) = (s < length t.slots) × (Some s ≡ number_of (slot_names t) trip)

abbrev pub IsSlotOf : Edit → TimetableView → Option ℕ → Type 0
IsSlotOf (Shift trip by) t slot = IsSlotNamed trip t slot
IsSlotOf (Cancel trip) t slot = IsSlotNamed trip t slot
IsSlotOf (Restore trip) t slot = IsSlotNamed trip t slot
IsSlotOf (Extra trip from to departs arrives) t slot = slot ≡ Some (length t.slots)
IsSlotOf Undo t slot = ⊤
IsSlotOf Redo t slot = ⊤
IsSlotOf Show t slot = ⊤
