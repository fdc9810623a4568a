-- What was done to the trip in a slot, made and taken back.
use Rattle.std.specs.Prelude.{◌≡◌, ℕ, ◌+◌, ◌<◌, ◌≤◌, ℤ, neg_ℤ, unsigned_abs, true, false, List, length, take, Contains, Some, IsOk, Result}
use Rattle.std.specs.Prelude.{Ok, Err}
use Rattle.trip_model.specs.declared.limits.TheConstants.{MOST_SLOTS}
use Rattle.trip_model.specs.declared.trip.Trip.{Trip}
use Rattle.trip_model.specs.Timetable.{TimetableView, slot_at, slot_names}
use Rattle.trip_model.specs.Trip.{IsValidTrip, MayShift}
use Rattle.trip_model.specs.Fleet.{with_shift}
use Rattle.edit_script.specs.declared.changes.Change.{Change}
use Rattle.edit_script.specs.declared.changes.Judged.{Judged}
use Rattle.edit_script.specs.declared.changes.Made.{Made}
use Rattle.edit_script.specs.declared.changes.Made.TheVariants.{Moved, Cancelled, Restored, Added}
use Rattle.edit_script.specs.declared.edit.Edit.{Edit}
use Rattle.edit_script.specs.declared.edit.TheConstants.{MOST_SHIFT}
use Rattle.edit_script.specs.declared.fault.EditFault.{EditFault}
use Rattle.edit_script.specs.declared.fault.EditFault.TheVariants as fault
use Rattle.edit_script.specs.Changes.{IsSlotOf, edited, with_extra, with_live}

-- the timetable after it was done to the trip in a slot
abbrev pub with_made : TimetableView → ℕ → Made → TimetableView
with_made t s (Moved by) = with_shift t s by
with_made t s Cancelled = with_live t s false
with_made t s Restored = with_live t s true
with_made t s (Added name trip) = with_extra t name trip

-- the timetable after it was taken back
abbrev pub without_made : TimetableView → ℕ → Made → TimetableView
without_made t s (Moved by) = with_shift t s (neg_ℤ by)
without_made t s Cancelled = with_live t s true
without_made t s Restored = with_live t s false
without_made t s (Added name trip) = record t { slots = take s t.slots }

-- the trip in a slot runs, and may be moved by so many minutes
pub record MayMove (t : TimetableView) (s : ℕ) (by : ℤ) : Type 0 where
  pub slot : s < length t.slots
  pub live : (slot_at t s).trip.live ≡ true
  pub moves : 0 < unsigned_abs by
  pub most : unsigned_abs by ≤ MOST_SHIFT
  pub within : MayShift (slot_at t s).trip by

-- a trip may be added as the slot of that number
pub record MayAdd (t : TimetableView) (s : ℕ) (name : List ℕ) (trip : Trip) : Type 0 where
  pub slot : s ≡ length t.slots
  pub room : s < MOST_SLOTS
  pub new : ¬ Contains (slot_names t) name
  pub valid : IsValidTrip t.places trip

-- it can be done to the trip in a slot
abbrev pub CanMake : TimetableView → ℕ → Made → Type 0
CanMake t s (Moved by) = MayMove t s by
CanMake t s Cancelled = (s < length t.slots) × ((slot_at t s).trip.live ≡ true)
CanMake t s Restored = (s < length t.slots) × ((slot_at t s).trip.live ≡ false)
CanMake t s (Added name trip) = MayAdd t s name trip

-- it can be taken back
abbrev pub CanUnmake : TimetableView → ℕ → Made → Type 0
CanUnmake t s (Moved by) = MayMove t s (neg_ℤ by)
CanUnmake t s Cancelled = (s < length t.slots) × ((slot_at t s).trip.live ≡ false)
CanUnmake t s Restored = (s < length t.slots) × ((slot_at t s).trip.live ≡ true)
CanUnmake t s (Added name trip) = s + 1 ≡ length t.slots

-- the timetables after a change and before it
abbrev pub with_change : TimetableView → Change → TimetableView
with_change t change = with_made t change.slot change.made

abbrev pub without_change : TimetableView → Change → TimetableView
without_change t change = without_made t change.slot change.made

-- a change can be made
abbrev pub MayMake : TimetableView → Change → Type 0
MayMake t change = CanMake t change.slot change.made

-- a change is the last that was made
pub record WasMade (t : TimetableView) (change : Change) : Type 0 where
  pub unmakes : CanUnmake t change.slot change.made
  pub makes : MayMake (without_change t change) change
  pub again : with_change (without_change t change) change ≡ t

-- what an edit of a trip was judged to do can be done, and the timetable after it
abbrev pub CanDo : TimetableView → Judged → Type 0
CanDo t judged = CanMake t judged.slot judged.made

abbrev pub with_judged : TimetableView → Judged → TimetableView
with_judged t judged = with_made t judged.slot judged.made

-- it can be done to the slot of the trip, and is what the edit does
pub record IsDue (t : TimetableView) (edit : Edit) (judged : Judged) : Type 0 where
  pub can : CanDo t judged
  pub slot : IsSlotOf edit t (Some judged.slot)
  pub does : edited t edit ≡ Ok (with_judged t judged)

-- rule: why an edit is refused, and what it does
-- an edit of a trip is judged: it is known what it does, or why it is refused. Or there was no memory for one that is accepted
abbrev pub IsJudged : Result Judged EditFault → TimetableView → Edit → Type 0
IsJudged (Ok judged) t edit = IsDue t edit judged
IsJudged (Err fault.Memory) t edit = IsOk (edited t edit)
IsJudged (Err refused) t edit = edited t edit ≡ Err refused
