-- What `planners` asks, and what it puts of a feed and of the records of planners.
use Rattle.std.specs.Prelude.{◌≡◌, ℕ, Bool, false, List, [], ◌∷◌, ◌++◌, length, Result, Ok, Err, if◌then◌else◌}
use Rattle.gtfs_tables.specs.declared.fault.FeedFault.{FeedFault}
use Rattle.gtfs_tables.specs.declared.paper.Paper.{Paper}
use Rattle.gtfs_tables.specs.declared.paper.Paper.TheVariants as paper
use Rattle.trip_model.specs.Timetable.{TimetableView}
use Rattle.deadhead_matrix.specs.Matrix.{MatrixView}
use Rattle.desk_run.specs.Commands.{Asked}
use Rattle.desk_run.specs.Outcome.{OutcomeView}
use Rattle.desk_run.specs.declared.status.Ending.{Ending}
use Rattle.desk_run.specs.declared.status.Ending.TheVariants as ending
use Rattle.desk_feed.specs.Edited.{refusing_first}
use Rattle.desk_feed.specs.Feed.{FeedView, feed_papers, standing}
use Rattle.desk_feed.specs.Judging.{FeedAsked, ending_of, of_feed, refused_of, refusing}
use Rattle.desk_feed.specs.Schedule.{IsMatrixFor, most_steps}
use Rattle.planner_desk.specs.declared.edit.PlannerLine.{PlannerLine}
use Rattle.planners_command.specs.Answers.{answers_to, standing_text}
use Rattle.planners_command.specs.Moments.{ArePlanners, one_refused, stand_after, timetable_after}
use Rattle.planners_command.specs.Numbers.{IsNumbered}
use Rattle.planners_command.specs.Reading.{lines_in}

-- what becomes of each record, then the records that stand, and last the numbers of the timetable with their edits
abbrev pub planners_text : TimetableView → List PlannerLine → List ℕ → List ℕ
planners_text base lines numbers = answers_to base lines (length lines) ++ (standing_text (stand_after base lines) ++ numbers)

-- how a run ends: with refused edits where a record of the planners is refused, and else as after the script
abbrev pub ending_with : Bool → Ending → Ending
ending_with some end = if some then ending.EditsRefused else end

abbrev pub ending_behind : TimetableView → List PlannerLine → Ending → Ending
ending_behind base lines end = ending_with (one_refused base lines (length lines)) end

-- It is put behind the lines of the refused records of the script, with the numbers of the planners' timetable.
pub record PutsPlanners (refused : List ℕ) (end : Ending) (base : TimetableView) (matrix : MatrixView) (lines : List PlannerLine)
    (outcome : OutcomeView) : Type 0 where
  pub numbers : List ℕ
  pub numbered : IsNumbered (timetable_after base lines) matrix numbers
  pub done : outcome ≡ refusing_first refused (planners_text base lines numbers) (ending_behind base lines end)

-- and of a feed: the planners begin where its script ends, and what holds of their records holds
pub record IsPlanners (said : FeedView) (lines : List PlannerLine) (outcome : OutcomeView) : Type 0 where
  pub are : ArePlanners (standing said) lines
  pub matrix : MatrixView
  pub matrix_is : IsMatrixFor said matrix
  pub planned : PutsPlanners (refused_of said) (ending_of said) (standing said) matrix lines outcome

-- of what was read; a script of planners that is none is refused
abbrev pub GivesBy : FeedView → Result (List PlannerLine) FeedFault → OutcomeView → Type 0
GivesBy said (Ok lines) outcome = IsPlanners said lines outcome
GivesBy said (Err refused) outcome = outcome ≡ refusing refused

-- how the run ends then, and the most steps
abbrev pub PlannersEndBy : FeedView → Result (List PlannerLine) FeedFault → Ending → Type 0
PlannersEndBy said (Ok lines) end = end ≡ ending_behind (standing said) lines (ending_of said)
PlannersEndBy said (Err refused) end = end ≡ ending.FeedRefused

abbrev pub most_by : TimetableView → Result (List PlannerLine) FeedFault → ℕ
most_by base (Ok lines) = most_steps (length (timetable_after base lines).slots)
most_by base (Err refused) = 0

-- the script of the planners, which is read after the papers of a feed
abbrev pub own_papers : List Paper
own_papers = paper.PlannerEdits ∷ []

abbrev pub all_papers : List Paper
all_papers = feed_papers ++ own_papers

-- what `planners` asks of a feed
abbrev pub planners_does : FeedAsked
planners_does = record {
  further = own_papers;
  keeps = false;
  Ends = λ read said. PlannersEndBy said (lines_in read);
  Gives = λ read said. GivesBy said (lines_in read);
  most = λ read said. most_by (standing said) (lines_in read);
}

-- what `planners` asks of a run
unfoldable pub planners_asked : Asked
planners_asked = of_feed planners_does
