-- The blocks of a feed, and in which file `blocks` lists them.
use Rattle.std.specs.Prelude.{ℕ, List, length}
use Rattle.deadhead_matrix.specs.Matrix.{MatrixView}
use Rattle.desk_core.specs.Counts.{blocks_in}
use Rattle.desk_feed.specs.Feed.{FeedView, standing}
use Rattle.desk_run.specs.Outcome.{OutcomeView}
use Rattle.plan_choice.specs.Likings.{LikingsView}
use Rattle.feed_desk.specs.Plans.{plan_at}
use Rattle.block_names.specs.Names.{NamingView}
use Rattle.blocks_command.specs.Blocks.{WritesPlans}

-- the blocks of the plan after the script of a feed, by how links are liked
abbrev pub blocks_after : LikingsView → FeedView → MatrixView → List (List ℕ)
blocks_after likings said matrix = blocks_in (standing said) (plan_at said.base said.lines matrix likings (length said.lines))

-- those that `blocks` lists in `blocks.csv`
abbrev pub listed : (likings : LikingsView) (naming : NamingView) (said : FeedView) (outcome : OutcomeView)
    → WritesPlans likings naming said outcome → List (List ℕ)
listed likings naming said outcome plan = blocks_after likings said plan.matrix
