-- What a desk is seen as, what holds of each one, and what an edit does to it.
use Rattle.std.specs.Prelude.{◌≡◌, ℕ, ◌+◌, ◌*◌, List, length, Option, IfSome, Ok, Err, Result, ⊤}
use Rattle.std.specs.List.{AllZip}
use Rattle.deadhead_matrix.specs.Matrix.{MatrixView}
use Rattle.assignment_model.specs.Paths.{IsTaken, IsAdded}
use Rattle.assignment_model.specs.Prices.{Plan}
use Rattle.deadhead_matrix.specs.Plans.{IsPlanFor}
use Rattle.edit_script.specs.Script.{ScriptView, TakesMemory, stepped}
use Rattle.edit_script.specs.declared.edit.Edit.{Edit}
use Rattle.edit_script.specs.declared.edit.Edit.TheVariants.{Shift, Cancel, Restore, Extra, Undo, Redo, Show}
use Rattle.edit_script.specs.declared.fault.EditFault.{EditFault}
use Rattle.edit_script.specs.declared.fault.EditFault.TheVariants as fault
use Rattle.plan_history.specs.History.{HistoryView, IsReplaced}
use Rattle.desk_core.specs.Computed.{PlansView, plans_after}
use Rattle.trip_model.specs.Timetable.{TimetableView, number_of, slot_names}

-- a desk: the script, the matrix and the plan. Then the plan before each edit that can be undone, and the plan after each that
-- can be redone, the newest last
pub record DeskView : Type 0 where
  pub script : ScriptView
  pub matrix : MatrixView
  pub plan : Plan
  pub earlier : List Plan
  pub later : List Plan

-- the desk of a script, a matrix and a history
abbrev pub desk_seen : ScriptView → MatrixView → HistoryView → DeskView
desk_seen script matrix history =
    record { script = script; matrix = matrix; plan = history.plan; earlier = history.earlier; later = history.later }

-- as many plans as timetables, each for the one beside it
abbrev pub ArePlansFor : MatrixView → List TimetableView → List Plan → Type 0
ArePlansFor matrix timetables plans = AllZip (λ (timetable : TimetableView) (plan : Plan). IsPlanFor timetable matrix plan) timetables plans

-- Script and plans in lockstep. The matrix has the places of the timetable, and the plan is one for both. So is each plan that
-- can be undone or redone, for its timetable.
pub record IsDesk (desk : DeskView) : Type 0 where
  pub places : length desk.script.timetable.places ≡ length desk.matrix.walks
  pub plan : IsPlanFor desk.script.timetable desk.matrix desk.plan
  pub earlier : ArePlansFor desk.matrix desk.script.earlier desk.earlier
  pub later : ArePlansFor desk.matrix desk.script.later desk.later

-- along which paths an edit changes the links of a plan: those of a trip that is taken, added, or taken and added. Its slot is
-- that of its name, or a new last one. A show changes none.
abbrev pub AreRepaired : Edit → TimetableView → List (Option ℕ) → List (Option ℕ) → Type 0
AreRepaired (Shift trip by) timetable old new = IfSome (number_of (slot_names timetable) trip) (λ s. IsReplaced old new s)
AreRepaired (Cancel trip) timetable old new = IfSome (number_of (slot_names timetable) trip) (λ s. IsTaken old new s)
AreRepaired (Restore trip) timetable old new = IfSome (number_of (slot_names timetable) trip) (λ s. IsAdded old new s)
AreRepaired (Extra trip from to departs arrives) timetable old new = IsAdded old new (length timetable.slots)
AreRepaired Undo timetable old new = ⊤
AreRepaired Redo timetable old new = ⊤
AreRepaired Show timetable old new = new ≡ old

-- the plans of a desk
abbrev pub plans_of : DeskView → PlansView
plans_of desk = record { plan = desk.plan; earlier = desk.earlier; later = desk.later }

-- The edit of a record of that number was done. The script made its step, and the plans are those that are computed from the
-- plans before. Links changed along the paths of the repair alone.
pub record IsDone (number : ℕ) (edit : Edit) (old new : DeskView) : Type 0 where
  pub script : stepped old.script number edit ≡ Ok new.script
  pub matrix : new.matrix ≡ old.matrix
  pub links : AreRepaired edit old.script.timetable old.plan.next new.plan.next
  pub plans : plans_of new ≡ plans_after edit old.script.timetable new.script.timetable old.matrix (plans_of old)

-- a fault is the refusal of an edit, or lack of memory for one that takes memory
abbrev pub IsRefused : EditFault → Edit → Result ScriptView EditFault → Type 0
IsRefused fault.Memory edit due = TakesMemory edit
IsRefused refused edit due = due ≡ Err refused

-- the most steps of an edit, with so many slots after it
abbrev pub most_steps : Edit → ℕ → ℕ
most_steps Undo n = 56
most_steps Redo n = 56
most_steps Show n = 0
most_steps edit n = 4 * n * n + 4 * n + 56
