-- The machine of planners: which records stand after the records of a script.
use Rattle.std.specs.Prelude.{ℕ, List, [], fold, Result, Ok, Err}
use Rattle.trip_model.specs.Timetable.{TimetableView}
use Rattle.planner_desk.specs.declared.edit.PlannerEdit.{PlannerEdit}
use Rattle.planner_desk.specs.declared.edit.PlannerLine.{PlannerLine}
use Rattle.planner_desk.specs.declared.edit.PlannerLine.TheVariants as line
use Rattle.planner_desk.specs.declared.fault.PlannerFault.{PlannerFault}
use Rattle.planner_desk.specs.declared.fault.PlannerFault.TheVariants as fault
use Rattle.planner_desk.specs.declared.standing.Standing.{Standing}
use Rattle.planner_desk.specs.Planners.{asked_record, standing_after}

-- a record of a script with its number
pub record Numbered : Type 0 where
  pub number : ℕ
  pub line : PlannerLine

-- the record of a planner's edit, and one of no form
abbrev pub edit_record : ℕ → PlannerEdit → Numbered
edit_record number asked = record { number = number; line = line.Edit asked }

abbrev pub no_edit_record : ℕ → Numbered
no_edit_record number = record { number = number; line = line.NotAnEdit }

-- the records that stand after one more, or why it is refused
abbrev pub line_after : TimetableView → List Standing → ℕ → PlannerLine → Result (List Standing) PlannerFault
line_after base standing number line.NotAnEdit = Err fault.NotAnEdit
line_after base standing number (line.Edit asked) = standing_after base standing (asked_record number asked)

-- a refused record changes nothing
abbrev pub or_stays : List Standing → Result (List Standing) PlannerFault → List Standing
or_stays standing (Ok next) = next
or_stays standing (Err refused) = standing

abbrev pub with_record : TimetableView → List Standing → Numbered → List Standing
with_record base standing r = or_stays standing (line_after base standing r.number r.line)

-- rule: the edits of several planners that stand
-- the records that stand after all records
abbrev pub planners_machine : TimetableView → List Numbered → List Standing
planners_machine base records = fold (with_record base) [] records
