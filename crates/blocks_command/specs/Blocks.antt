-- What `blocks` asks, and what it writes and puts of a feed.
use Rattle.std.specs.Prelude.{◌≡◌, ℕ, ◌∷◌, [], List, ◌++◌, length, All, None}
use Rattle.gtfs_tables.specs.Papers.{file_name_of}
use Rattle.gtfs_tables.specs.declared.paper.Paper.TheVariants as paper
use Rattle.trip_model.specs.Timetable.{TimetableView}
use Rattle.edit_script.specs.declared.edit.Line.{Line}
use Rattle.deadhead_matrix.specs.Matrix.{MatrixView}
use Rattle.assignment_model.specs.Prices.{Plan}
use Rattle.plan_choice.specs.Likings.{LikingsView}
use Rattle.deadhead_matrix.specs.Pulls.{IsPull}
use Rattle.block_build.specs.Files.{blocks_text, prices_text}
use Rattle.block_build.specs.Names.{AreBlockNames}
use Rattle.block_names.specs.Names.{NamingView, names_of}
use Rattle.claim_files.specs.Written.{IsAccepted}
use Rattle.desk_core.specs.Counts.{blocks_in}
use Rattle.desk_run.specs.Commands.{Asked}
use Rattle.desk_run.specs.Outcome.{OutcomeView}
use Rattle.desk_run.specs.declared.outcome.Writing.{Writing}
use Rattle.desk_feed.specs.Edited.{ending_after, standing_after}
use Rattle.desk_feed.specs.Feed.{FeedView, standing}
use Rattle.desk_feed.specs.Judging.{FeedAsked, of_feed}
use Rattle.desk_feed.specs.Schedule.{IsMatrixFor}
use Rattle.feed_likings.specs.Likings.{likings_in}
use Rattle.feed_naming.specs.Commands.{NamingAsked, doing_named, of_naming}
use Rattle.feed_desk.specs.Answers.{answers_by}
use Rattle.feed_desk.specs.Plans.{ArePlanned, most_steps_of, plan_at}
use Rattle.blocks_command.specs.Answers.{answer_text, numbers_text}

-- the names of the blocks of a plan
abbrev pub plan_names : NamingView → TimetableView → Plan → List (List ℕ)
plan_names naming timetable plan = names_of naming (blocks_in timetable plan)

-- the two files of a plan, in the order in which they are written
abbrev pub plan_files : TimetableView → MatrixView → NamingView → Plan → List Writing
plan_files timetable matrix naming plan =
    record {
      name = file_name_of paper.Blocks;
      bytes = blocks_text timetable matrix (plan_names naming timetable plan) (blocks_in timetable plan);
    }
    ∷ record { name = file_name_of paper.Prices; bytes = prices_text timetable plan.leave plan.enter }
    ∷ []

-- What is written and put of a feed's plans. The files are those of the last one. Of each record it is put what the plan after it
-- says, and last come the numbers after all records.
abbrev pub plans_outcome : TimetableView → List Line → MatrixView → LikingsView → NamingView → OutcomeView
plans_outcome base lines matrix likings naming =
    let last = plan_at base lines matrix likings (length lines) in
    record {
      writes = plan_files (standing_after base lines) matrix naming last;
      lines = None;
      text = answers_by (answer_text matrix naming) base lines (plan_at base lines matrix likings) (length lines)
          ++ numbers_text (standing_after base lines) matrix last;
      ending = ending_after base lines;
    }

-- the blocks of a plan have names by which they can be told apart
abbrev pub IsNamedBy : NamingView → TimetableView → Plan → Type 0
IsNamedBy naming timetable plan = AreBlockNames (length (blocks_in timetable plan)) (plan_names naming timetable plan)

-- what is written of the last plan is a claim on which the verdict is yes, with the vehicles and the minutes of its blocks
abbrev pub IsLastAccepted : TimetableView → MatrixView → NamingView → Plan → Type 0
IsLastAccepted timetable matrix naming plan =
    IsAccepted timetable matrix (plan_names naming timetable plan) (blocks_in timetable plan) plan.leave plan.enter

-- What `blocks` writes and puts of a feed, by the plan at each moment of its script. Pulls are valid, and the blocks of the last
-- plan can be told apart by their names. Its prices prove it to `check`.
pub record WritesPlans (likings : LikingsView) (naming : NamingView) (said : FeedView) (outcome : OutcomeView) : Type 0 where
  pub matrix : MatrixView
  pub matrix_is : IsMatrixFor said matrix
  pub are : ArePlanned said.base said.lines matrix likings
  pub pulls : All IsPull matrix.pulls
  pub named : IsNamedBy naming (standing said) (plan_at said.base said.lines matrix likings (length said.lines))
  pub done : outcome ≡ plans_outcome said.base said.lines matrix likings naming
  pub accepted : IsLastAccepted (standing said) matrix naming (plan_at said.base said.lines matrix likings (length said.lines))

-- what `blocks` asks of a feed whose blocks are named
abbrev pub blocks_named : NamingAsked
blocks_named = doing_named (λ read naming said. WritesPlans (likings_in read said.settings said.base) naming said) most_steps_of

-- and of any feed
abbrev pub blocks_does : FeedAsked
blocks_does = of_naming blocks_named

-- what `blocks` asks of a run
unfoldable pub blocks_asked : Asked
blocks_asked = of_feed blocks_does
