-- The records of planners over a base timetable: which stand at each moment, and what the rules say of each step.
use Rattle.std.specs.Prelude.{◌≡◌, ℕ, suc, ◌+◌, Bool, false, List, [], ◌∷◌, ◌++◌, length, is_some, IsOk, Option, None, Some, Result}
use Rattle.std.specs.Prelude.{Ok, Err, slice_index_or, ◌||◌}
use Rattle.edit_script.specs.declared.edit.Edit.TheVariants.{Undo}
use Rattle.trip_model.specs.Timetable.{TimetableView}
use Rattle.desk_feed.specs.Script.{gathered}
use Rattle.planner_desk.specs.Laws.{HasNone, IsHeld, TakesBack}
use Rattle.planner_desk.specs.Machine.{Numbered, line_after, planners_machine}
use Rattle.planner_desk.specs.Standing.{Folds, timetable_of}
use Rattle.planner_desk.specs.declared.edit.PlannerLine.{PlannerLine}
use Rattle.planner_desk.specs.declared.edit.PlannerLine.TheVariants as line
use Rattle.planner_desk.specs.declared.fault.PlannerFault.{PlannerFault}
use Rattle.planner_desk.specs.declared.fault.PlannerFault.TheVariants as fault
use Rattle.planner_desk.specs.declared.standing.Standing.{Standing}

-- the line of the n-th record, counted from 0, and the record with its number, counted from 1
abbrev pub line_at : List PlannerLine → ℕ → PlannerLine
line_at lines n = slice_index_or lines n line.NotAnEdit

abbrev pub record_at : List PlannerLine → ℕ → Numbered
record_at lines n = record { number = n + 1; line = line_at lines n }

-- so many of the first records
unfoldable pub first_records : List PlannerLine → ℕ → List Numbered
first_records lines = gathered [] λ n records. records ++ record_at lines n ∷ []

-- A moment is a number of records: those that stand after so many of the first.
abbrev pub stand_at : TimetableView → List PlannerLine → ℕ → List Standing
stand_at base lines m = planners_machine base (first_records lines m)

-- what the machine makes of the n-th record: those that stand after it, or why it is refused
abbrev pub step_at : TimetableView → List PlannerLine → ℕ → Result (List Standing) PlannerFault
step_at base lines n = line_after base (stand_at base lines n) (n + 1) (line_at lines n)

-- why a record is refused, where it is
abbrev pub refusal_in : Result (List Standing) PlannerFault → Option PlannerFault
refusal_in (Ok standing) = None
refusal_in (Err refused) = Some refused

-- whether one of so many of the first records is refused
unfoldable pub one_refused : TimetableView → List PlannerLine → ℕ → Bool
one_refused base lines = gathered false λ n some. some || is_some (refusal_in (step_at base lines n))

-- those that stand after all records, and the timetable of their edits, in order, over the base
abbrev pub stand_after : TimetableView → List PlannerLine → List Standing
stand_after base lines = stand_at base lines (length lines)

abbrev pub timetable_after : TimetableView → List PlannerLine → TimetableView
timetable_after base lines = timetable_of base (stand_after base lines)

-- the n-th record is an undo of a planner
abbrev pub IsUndoAt : List PlannerLine → ℕ → List ℕ → Type 0
IsUndoAt lines n planner = line_at lines n ≡ line.Edit (record { planner = planner; edit = Undo })

-- What holds of the records of planners, in whatever order they come. At each moment the edits that stand are accepted, one after
-- the other, over the base. A refused record changes nothing. An undo that is accepted takes out its own planner's last record,
-- whose trip no later one names, and it alone. One with nothing to undo is of a planner of whom no record stands. One that is held
-- tells the first later record that names the trip of the planner's last one.
pub record ArePlanners (base : TimetableView) (lines : List PlannerLine) : Type 0 where
  pub folds : (m : ℕ) → Folds base (stand_at base lines m)
  pub unchanged : (n : ℕ) (refused : PlannerFault) → step_at base lines n ≡ Err refused
      → stand_at base lines (suc n) ≡ stand_at base lines n
  pub taken : (n : ℕ) (planner : List ℕ) → IsUndoAt lines n planner → IsOk (step_at base lines n)
      → TakesBack planner (stand_at base lines n) (stand_at base lines (suc n))
  pub nothing : (n : ℕ) (planner : List ℕ) → IsUndoAt lines n planner → step_at base lines n ≡ Err fault.NothingToUndo
      → HasNone planner (stand_at base lines n)
  pub held : (n : ℕ) (planner : List ℕ) (number : ℕ) → IsUndoAt lines n planner → step_at base lines n ≡ Err (fault.HeldBy number)
      → IsHeld planner (stand_at base lines n) number
