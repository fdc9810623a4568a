-- The lines of the planners' script, from what was found of its file.
use Rattle.std.specs.Prelude.{◌≤◌, List, [], All, length, Result}
use Rattle.desk_io.specs.declared.shelf.Found.{Found}
use Rattle.gtfs_tables.specs.declared.fault.FeedFault.{FeedFault}
use Rattle.gtfs_tables.specs.declared.paper.Paper.TheVariants as paper
use Rattle.gtfs_tables.specs.Reading.{optional_in}
use Rattle.desk_run.specs.Reading.{ReadView, found_of}
use Rattle.planner_desk.specs.Forms.{IsPlannerLine, planner_script_of}
use Rattle.planner_desk.specs.declared.edit.PlannerLine.{PlannerLine}
use Rattle.planner_desk.specs.declared.edit.TheConstants.{MOST_PLANNER_EDITS}

-- the lines of the planners, none where they have no file
abbrev pub lines_by : Found → Result (List PlannerLine) FeedFault
lines_by found = optional_in paper.PlannerEdits [] planner_script_of found

abbrev pub lines_in : ReadView → Result (List PlannerLine) FeedFault
lines_in read = lines_by (found_of read.pages paper.PlannerEdits)

-- the lines of planners are in form, and no more than there may be
pub record IsPlannerScript (lines : List PlannerLine) : Type 0 where
  pub forms : All IsPlannerLine lines
  pub few : length lines ≤ MOST_PLANNER_EDITS
