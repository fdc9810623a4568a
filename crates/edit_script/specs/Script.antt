-- What a script is seen as, and one step of it.
use Rattle.std.specs.Prelude.{◌≡◌, ◌≢◌, ℕ, ◌+◌, ◌-◌, ◌<◌, ◌≤◌, List, [], ◌∷◌, ◌++◌, length, drop, take, reverse, All, AllPairs, slice_get}
use Rattle.std.specs.Prelude.{Option, Some, None, IsOk, Result, Ok, Err, nat_lt, if◌then◌else◌, ⊤}
use Rattle.std.specs.Option.{option_map}
use Rattle.trip_model.specs.Timetable.{TimetableView, slot_at, with_trip}
use Rattle.trip_model.specs.declared.trip.Trip.{Trip}
use Rattle.undo_log.specs.Log.{last_item, latest_items}
use Rattle.edit_script.specs.declared.edit.Edit.{Edit}
use Rattle.edit_script.specs.declared.edit.Edit.TheVariants.{Undo, Redo, Show}
use Rattle.edit_script.specs.declared.edit.TheConstants.{MOST_SHOWS}
use Rattle.edit_script.specs.declared.fault.EditFault.{EditFault}
use Rattle.edit_script.specs.declared.fault.EditFault.TheVariants as fault
use Rattle.edit_script.specs.declared.touched.Touched.{Touched}
use Rattle.edit_script.specs.Changes.{edited, with_extra}

-- a script: the timetable that stands, and the numbers of the edits that stand and of those that were undone. Then the greatest
-- number that ever stood, and how often the plan was shown. Then the timetable before each edit that can be undone, and the one
-- after each that can be redone. The last of each list is the newest
pub record ScriptView : Type 0 where
  pub timetable : TimetableView
  pub standing : List ℕ
  pub undone : List ℕ
  pub last : ℕ
  pub shows : ℕ
  pub earlier : List TimetableView
  pub later : List TimetableView

-- the numbers that stand, and after them those that were undone, the newest first
abbrev pub numbers_along : List ℕ → List ℕ → List ℕ
numbers_along standing undone = standing ++ reverse undone

-- numbers rise, up to the greatest that ever stood
pub record IsRising (last : ℕ) (numbers : List ℕ) : Type 0 where
  pub rises : AllPairs (λ x y. x < y) numbers
  pub most : All (λ n. n ≤ last) numbers

-- a script over a timetable, to which nothing was done
abbrev pub opened : TimetableView → ScriptView
opened t = record { timetable = t; standing = []; undone = []; last = 0; shows = 0; earlier = []; later = [] }

-- a list without its last item, and the list of its last item alone
abbrev pub all_but_last : {X : Type 0} → List X → List X
all_but_last items = take (length items - 1) items

abbrev pub last_alone : {X : Type 0} → List X → List X
last_alone items = drop (length items - 1) items

-- the script after an edit of a trip
abbrev pub with_edit : ScriptView → ℕ → TimetableView → ScriptView
with_edit s number t = record s {
  timetable = t;
  standing = s.standing ++ number ∷ [];
  undone = [];
  last = number;
  earlier = latest_items (s.earlier ++ s.timetable ∷ []);
  later = [];
}

abbrev pub if_edited : ScriptView → ℕ → Result TimetableView EditFault → Result ScriptView EditFault
if_edited s number (Ok t) = Ok (with_edit s number t)
if_edited s number (Err refused) = Err refused

-- the script after an undo, where an edit can be undone
abbrev pub if_undone : ScriptView → Option TimetableView → Result ScriptView EditFault
if_undone s None = Err fault.NothingToUndo
if_undone s (Some t) = Ok (record s {
  timetable = t;
  standing = all_but_last s.standing;
  undone = s.undone ++ last_alone s.standing;
  earlier = all_but_last s.earlier;
  later = s.later ++ s.timetable ∷ [];
})

-- the script after a redo, where an edit can be redone
abbrev pub if_redone : ScriptView → Option TimetableView → Result ScriptView EditFault
if_redone s None = Err fault.NothingToRedo
if_redone s (Some t) = Ok (record s {
  timetable = t;
  standing = s.standing ++ last_alone s.undone;
  undone = all_but_last s.undone;
  earlier = s.earlier ++ s.timetable ∷ [];
  later = all_but_last s.later;
})

-- the script after a show
abbrev pub if_shown : ScriptView → Result ScriptView EditFault
if_shown s = if nat_lt s.shows MOST_SHOWS then Ok (record s { shows = s.shows + 1 }) else Err fault.TooManyShows

-- rule: what undo, redo and show do in a script
-- the script after an edit with its number, or why it is refused
abbrev pub stepped : ScriptView → ℕ → Edit → Result ScriptView EditFault
stepped s number Undo = if_undone s (last_item s.earlier)
stepped s number Redo = if_redone s (last_item s.later)
stepped s number Show = if_shown s
stepped s number edit = if_edited s number (edited s.timetable edit)

-- an edit that takes memory; the others never want of it
abbrev pub TakesMemory : Edit → Type 0
TakesMemory Undo = ⊥
TakesMemory Show = ⊥
TakesMemory edit = ⊤

-- a fault is the refusal of an edit, or lack of memory for one that would have been accepted
abbrev pub IsRefusal : EditFault → Edit → Result ScriptView EditFault → Type 0
IsRefusal fault.Memory edit due = TakesMemory edit × IsOk due
IsRefusal refused edit due = due ≡ Err refused

-- the number of an edit of a trip is above those before it
abbrev pub IsNext : ScriptView → ℕ → Edit → Type 0
IsNext s number Undo = ⊤
IsNext s number Redo = ⊤
IsNext s number Show = ⊤
IsNext s number edit = s.last < number

-- the trip in a slot, if the slot is there
abbrev pub trip_in : TimetableView → ℕ → Option Trip
trip_in t s = option_map (λ slot. slot.trip) (slice_get t.slots s)

-- the trip in a slot is another
pub record IsChangedIn (s : ℕ) (before after : Trip) (old new : TimetableView) : Type 0 where
  pub slot : s < length old.slots
  pub trip : before ≡ (slot_at old s).trip
  pub differs : before ≢ after
  pub timetable : new ≡ with_trip old s after

-- the trip in a last slot is new
pub record IsAddedIn (s : ℕ) (trip : Trip) (old new : TimetableView) : Type 0 where
  pub slot : s ≡ length old.slots
  pub timetable : (name : List ℕ) × (new ≡ with_extra old name trip)

-- what a step touched is the slot whose trip it changed, added or took off, with the trip before and after; or nothing
abbrev pub IsTouchedIn : Option ℕ → Option Trip → Option Trip → TimetableView → TimetableView → Type 0
IsTouchedIn (Some s) (Some before) (Some after) old new = IsChangedIn s before after old new
IsTouchedIn (Some s) None (Some after) old new = IsAddedIn s after old new
IsTouchedIn (Some s) (Some before) None old new = IsAddedIn s before new old
IsTouchedIn (Some s) None None old new = ⊥
IsTouchedIn None None None old new = new ≡ old
IsTouchedIn None (Some before) after old new = ⊥
IsTouchedIn None None (Some after) old new = ⊥

abbrev pub IsTouched : Touched → TimetableView → TimetableView → Type 0
IsTouched touched old new = IsTouchedIn touched.slot touched.before touched.after old new
