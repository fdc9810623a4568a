-- The forms of the planners' records, and the lines that they are.
use Rattle.std.specs.Prelude.{ℕ, List, drop, length, map, Option, Some, None, Result, Ok, nat_le, ⊤}
use Rattle.gtfs_tables.specs.Reading.{provided, field_at}
use Rattle.gtfs_tables.specs.Records.{records}
use Rattle.gtfs_tables.specs.declared.fault.FeedFault.{FeedFault}
use Rattle.gtfs_tables.specs.declared.fault.FeedFault.TheVariants.{TooManyRecords}
use Rattle.gtfs_tables.specs.declared.paper.Paper.TheVariants.{PlannerEdits}
use Rattle.edit_script.specs.declared.edit.Edit.{Edit}
use Rattle.edit_script.specs.declared.edit.Edit.TheVariants.{Redo, Show}
use Rattle.edit_script.specs.Edits.{InForm}
use Rattle.edit_script.specs.Forms.{edit_of, name_in}
use Rattle.planner_desk.specs.declared.edit.PlannerLine.{PlannerLine}
use Rattle.planner_desk.specs.declared.edit.PlannerLine.TheVariants as line
use Rattle.planner_desk.specs.declared.edit.TheConstants.{MOST_PLANNER_EDITS}
use Rattle.planner_desk.specs.Planners.{MayAsk}

-- the line of a planner with an edit, which is neither a redo nor a show
abbrev pub line_with : List ℕ → Option Edit → PlannerLine
line_with planner None = line.NotAnEdit
line_with planner (Some Redo) = line.NotAnEdit
line_with planner (Some Show) = line.NotAnEdit
line_with planner (Some edit) = line.Edit (record { planner = planner; edit = edit })

-- the line of a planner who may have a name, with an edit
abbrev pub line_by : Option (List ℕ) → Option Edit → PlannerLine
line_by None edit = line.NotAnEdit
line_by (Some planner) edit = line_with planner edit

-- the line of a record: a planner's name, and then an edit
abbrev pub planner_line_of : List (List ℕ) → PlannerLine
planner_line_of row = line_by (name_in (field_at row 0)) (edit_of (drop 1 row))

-- the lines of the records of a file, at most so many
abbrev pub planner_script_of : List ℕ → Result (List PlannerLine) FeedFault
planner_script_of bytes = provided (nat_le (length (records bytes)) MOST_PLANNER_EDITS) (TooManyRecords PlannerEdits)
    (Ok (map planner_line_of (records bytes)))

-- the edit of a line, if it has one, is in form, and a planner may ask for it
abbrev pub IsPlannerLine : PlannerLine → Type 0
IsPlannerLine (line.Edit asked) = InForm asked.edit × MayAsk asked.edit
IsPlannerLine line.NotAnEdit = ⊤
