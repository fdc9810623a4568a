-- What the planners' records are seen as, and one step of them.
use Rattle.std.specs.Prelude.{◌≡◌, ℕ, List, [], ◌∷◌, ◌++◌, All, IsOk, Result, Ok, Err, ⊤}
use Rattle.trip_model.specs.Timetable.{TimetableView}
use Rattle.edit_script.specs.declared.edit.Edit.{Edit}
use Rattle.edit_script.specs.declared.edit.Edit.TheVariants.{Undo, Redo, Show}
use Rattle.edit_script.specs.declared.fault.EditFault.{EditFault}
use Rattle.edit_script.specs.Changes.{edited}
use Rattle.edit_script.specs.Edits.{EditsTrip, InForm}
use Rattle.planner_desk.specs.declared.edit.PlannerEdit.{PlannerEdit}
use Rattle.planner_desk.specs.declared.fault.PlannerFault.{PlannerFault}
use Rattle.planner_desk.specs.declared.fault.PlannerFault.TheVariants as fault
use Rattle.planner_desk.specs.declared.standing.Standing.{Standing}
use Rattle.planner_desk.specs.Standing.{Folds, numbers, timetable_of, undone}

-- a timetable under the edits of several planners: the base, and the records that stand, in order
pub record PlannersView : Type 0 where
  pub base : TimetableView
  pub standing : List Standing

-- an edit that a planner may ask for: it is neither a redo nor a show
abbrev pub MayAsk : Edit → Type 0
MayAsk Redo = ⊥
MayAsk Show = ⊥
MayAsk edit = ⊤

-- the record of an edit of a trip stands, where the edit is accepted
abbrev pub if_accepted : List Standing → Standing → Result TimetableView EditFault → Result (List Standing) PlannerFault
if_accepted standing r (Ok changed) = Ok (standing ++ r ∷ [])
if_accepted standing r (Err refused) = Err (fault.Refused refused)

-- the records that stand after one more, with its edit, or why it is refused
abbrev pub standing_by : TimetableView → List Standing → Standing → Edit → Result (List Standing) PlannerFault
standing_by base standing r Undo = undone r.asked.planner standing
standing_by base standing r Redo = Err fault.NotAnEdit
standing_by base standing r Show = Err fault.NotAnEdit
standing_by base standing r edit = if_accepted standing r (edited (timetable_of base standing) edit)

-- rule: the edits of several planners that stand
abbrev pub standing_after : TimetableView → List Standing → Standing → Result (List Standing) PlannerFault
standing_after base standing r = standing_by base standing r r.asked.edit

-- a record of a planner with its number
abbrev pub asked_record : ℕ → PlannerEdit → Standing
asked_record number asked = record { number = number; asked = asked }

-- a fault is the refusal that was due, or lack of memory for a step that would have been done
abbrev pub IsRefusal : PlannerFault → Result (List Standing) PlannerFault → Type 0
IsRefusal fault.Memory due = IsOk due
IsRefusal refused due = due ≡ Err refused

-- a record that stands is of an edit of a trip, in form
abbrev pub IsOfTrip : Standing → Type 0
IsOfTrip r = InForm r.asked.edit × EditsTrip r.asked.edit

-- the timetable is that of the records that stand, which are of trips, have these numbers, and are each accepted
pub record IsUnder (base timetable : TimetableView) (given : List ℕ) (standing : List Standing) : Type 0 where
  pub timetable_is : timetable ≡ timetable_of base standing
  pub numbered : given ≡ numbers standing
  pub trips : All IsOfTrip standing
  pub folds : Folds base standing
