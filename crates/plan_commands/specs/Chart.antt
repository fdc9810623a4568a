-- What `chart` asks, and what it puts of a feed.
use Rattle.std.specs.Prelude.{◌≡◌, ℕ, List, ◌++◌}
use Rattle.trip_model.specs.Deficit.{deficit, live_moves}
use Rattle.trip_model.specs.Timetable.{TimetableView}
use Rattle.deadhead_matrix.specs.Matrix.{MatrixView, walk}
use Rattle.assignment_model.specs.Prices.{Plan}
use Rattle.plan_choice.specs.Likings.{LikingsView}
use Rattle.block_names.specs.Names.{NamingView, names_of}
use Rattle.chart_text.specs.Blocks.{block_chart_text}
use Rattle.chart_text.specs.Deficits.{deficit_chart_text}
use Rattle.desk_run.specs.Commands.{Asked}
use Rattle.desk_run.specs.Outcome.{OutcomeView}
use Rattle.desk_feed.specs.Edited.{refusing_first}
use Rattle.desk_feed.specs.Feed.{FeedView, standing}
use Rattle.desk_feed.specs.Judging.{FeedAsked, ending_of, of_feed, refused_of}
use Rattle.desk_feed.specs.Schedule.{IsMatrixFor}
use Rattle.feed_likings.specs.Likings.{likings_in}
use Rattle.feed_naming.specs.Commands.{NamingAsked, doing_named, of_naming}
use Rattle.feed_desk.specs.Drawn.{IsDrawn}
use Rattle.feed_desk.specs.Plans.{most_steps_of}

-- the chart of the deficits, and then that of the blocks
abbrev pub chart_text : TimetableView → MatrixView → List (List ℕ) → List (List ℕ) → List ℕ
chart_text timetable matrix names blocks =
    deficit_chart_text timetable (deficit (live_moves timetable.slots)) ++ block_chart_text timetable (walk matrix) names blocks

-- the charts of deficits and blocks of the plan after the script are put behind the lines of refused records
pub record IsChart (likings : LikingsView) (naming : NamingView) (said : FeedView) (outcome : OutcomeView) : Type 0 where
  pub matrix : MatrixView
  pub matrix_is : IsMatrixFor said matrix
  pub plan : Plan
  pub blocks : List (List ℕ)
  pub drawn : IsDrawn said.base said.lines matrix likings plan blocks
  pub done : outcome ≡ refusing_first (refused_of said) (chart_text (standing said) matrix (names_of naming blocks) blocks) (ending_of said)

abbrev pub chart_named : NamingAsked
chart_named = doing_named (λ read naming said. IsChart (likings_in read said.settings said.base) naming said) most_steps_of

abbrev pub chart_does : FeedAsked
chart_does = of_naming chart_named

unfoldable pub chart_asked : Asked
chart_asked = of_feed chart_does
