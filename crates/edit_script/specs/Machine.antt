-- The edit machine: what stands, and what can be undone and redone, after the records of a script.
use Rattle.std.specs.Prelude.{◌≡◌, ℕ, ◌+◌, ◌-◌, ◌==◌, min, List, [], ◌∷◌, ◌++◌, length, drop, fold, map, Result, Ok, Err, nat_lt}
use Rattle.std.specs.Prelude.{if◌then◌else◌}
use Rattle.trip_model.specs.Timetable.{TimetableView}
use Rattle.undo_log.specs.declared.log.TheConstants.{UNDO_DEPTH}
use Rattle.edit_script.specs.declared.edit.Edit.{Edit}
use Rattle.edit_script.specs.declared.edit.Edit.TheVariants.{Undo, Redo, Show}
use Rattle.edit_script.specs.declared.edit.Line.{Line}
use Rattle.edit_script.specs.declared.edit.Line.TheVariants as line
use Rattle.edit_script.specs.declared.edit.TheConstants.{MOST_SHOWS}
use Rattle.edit_script.specs.declared.fault.EditFault.{EditFault}
use Rattle.edit_script.specs.declared.fault.EditFault.TheVariants as fault
use Rattle.edit_script.specs.Changes.{edited}
use Rattle.edit_script.specs.Script.{ScriptView, all_but_last, last_alone}
use Rattle.edit_script.specs.Timetables.{timetables_before, timetables_past}

-- a record of a script with its number
pub record Numbered : Type 0 where
  pub number : ℕ
  pub line : Line

-- the record of an edit, and one of no form
abbrev pub edit_record : ℕ → Edit → Numbered
edit_record number edit = record { number = number; line = line.Edit edit }

abbrev pub no_edit_record : ℕ → Numbered
no_edit_record number = record { number = number; line = line.NotAnEdit }

abbrev pub numbers_of : List Numbered → List ℕ
numbers_of records = map (λ (r : Numbered). r.number) records

-- what the records so far have come to: those that stand, and those that were undone, the newest last. Then how many of those
-- that stand can be undone, and how often the plan was shown
pub record State : Type 0 where
  pub standing : List Numbered
  pub undone : List Numbered
  pub kept : ℕ
  pub shows : ℕ

-- nothing was done
abbrev pub begun : State
begun = record { standing = []; undone = []; kept = 0; shows = 0 }

-- the timetable after the edit of a record, where it is accepted
abbrev pub or_same : TimetableView → Result TimetableView EditFault → TimetableView
or_same t (Ok changed) = changed
or_same t (Err refused) = t

abbrev pub after_line : TimetableView → Line → TimetableView
after_line t (line.Edit edit) = or_same t (edited t edit)
after_line t line.NotAnEdit = t

abbrev pub after_record : TimetableView → Numbered → TimetableView
after_record t r = after_line t r.line

-- the timetable of a state: the standing records' edits, in order, over the base
abbrev pub timetable_at : TimetableView → State → TimetableView
timetable_at base m = fold after_record base m.standing

-- the state after an edit of a trip that is accepted
abbrev pub with_standing : State → Numbered → State
with_standing m r = record m { standing = m.standing ++ r ∷ []; undone = []; kept = min (m.kept + 1) UNDO_DEPTH }

-- the state after an accepted undo, and after an accepted redo
abbrev pub with_undo : State → State
with_undo m = record m { standing = all_but_last m.standing; undone = m.undone ++ last_alone m.standing; kept = m.kept - 1 }

abbrev pub with_redo : State → State
with_redo m = record m { standing = m.standing ++ last_alone m.undone; undone = all_but_last m.undone; kept = m.kept + 1 }

abbrev pub if_accepted : State → Numbered → Result TimetableView EditFault → Result State EditFault
if_accepted m r (Ok changed) = Ok (with_standing m r)
if_accepted m r (Err refused) = Err refused

-- the state after a record, over the timetable that stands, or why it is refused
abbrev pub state_by : TimetableView → State → Numbered → Line → Result State EditFault
state_by t m r line.NotAnEdit = Err fault.NotAnEdit
state_by t m r (line.Edit Undo) = if m.kept == 0 then Err fault.NothingToUndo else Ok (with_undo m)
state_by t m r (line.Edit Redo) = if length m.undone == 0 then Err fault.NothingToRedo else Ok (with_redo m)
state_by t m r (line.Edit Show) = if nat_lt m.shows MOST_SHOWS then Ok (record m { shows = m.shows + 1 }) else Err fault.TooManyShows
state_by t m r (line.Edit edit) = if_accepted m r (edited t edit)

abbrev pub state_after : TimetableView → State → Numbered → Result State EditFault
state_after base m r = state_by (timetable_at base m) m r r.line

-- a refused record changes nothing
abbrev pub or_stays : State → Result State EditFault → State
or_stays m (Ok next) = next
or_stays m (Err refused) = m

abbrev pub with_record : TimetableView → State → Numbered → State
with_record base m r = or_stays m (state_after base m r)

-- rule: the timetable after a script
-- the state after all records
abbrev pub machine : TimetableView → List Numbered → State
machine base records = fold (with_record base) begun records

-- a script is at a state: its timetable is that of the state. It has the timetable before each edit that can be undone, and the
-- timetable after each undone one
pub record IsAt (base : TimetableView) (m : State) (s : ScriptView) : Type 0 where
  pub timetable : s.timetable ≡ timetable_at base m
  pub standing : s.standing ≡ numbers_of m.standing
  pub undone : s.undone ≡ numbers_of m.undone
  pub kept : length s.earlier ≡ m.kept
  pub shows : s.shows ≡ m.shows
  pub earlier : s.earlier ≡ drop (length m.standing - m.kept) (timetables_before after_record base m.standing)
  pub later : s.later ≡ timetables_past after_record (timetable_at base m) m.undone

-- a step of a script and a record's step of the machine are alike: both are refused for the same reason, or both are accepted.
-- Then the script is at the new state
abbrev pub AreAlike : TimetableView → Result ScriptView EditFault → Result State EditFault → Type 0
AreAlike base (Ok s) (Ok m) = IsAt base m s
AreAlike base (Err one) (Err other) = one ≡ other
AreAlike base (Ok s) (Err other) = ⊥
AreAlike base (Err one) (Ok m) = ⊥
