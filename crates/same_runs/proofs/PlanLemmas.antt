-- A feed has one plan after its script, and one list of blocks.
use Rattle.std.proofs.Common.{◌≡◌, ℕ, List, length, sym, ap, ◌∙◌}
use Rattle.deadhead_matrix.specs.Matrix.{MatrixView}
use Rattle.assignment_model.specs.Prices.{Plan}
use Rattle.desk_core.specs.Counts.{blocks_in}
use Rattle.desk_feed.specs.Edited.{standing_after}
use Rattle.desk_feed.specs.Feed.{FeedView}
use Rattle.desk_feed.specs.Schedule.{IsMatrixFor}
use Rattle.desk_feed.proofs.OneMatrix.{matrix-same}
use Rattle.plan_choice.specs.Likings.{LikingsView}
use Rattle.feed_desk.specs.Drawn.{IsDrawn}
use Rattle.same_runs.specs.Blocks.{blocks_after}

-- a feed has one matrix
pub one-matrix : (said : FeedView) (one other : MatrixView) → IsMatrixFor said one → IsMatrixFor said other → one ≡ other
one-matrix said one other is is' = matrix-same said.entries said.pulls said.rules (length said.base.places) one other is is'

-- blocks that are drawn are those of its plan
pub drawn-are : (likings : LikingsView) (said : FeedView) (matrix : MatrixView) (plan : Plan) (blocks : List (List ℕ))
    → IsDrawn said.base said.lines matrix likings plan blocks → blocks ≡ blocks_after likings said matrix
drawn-are likings said matrix plan blocks drawn = drawn.along ∙ ap (blocks_in (standing_after said.base said.lines)) drawn.last

-- so they are the same ones, whoever draws them
pub one-list : (likings : LikingsView) (said : FeedView) (one other : MatrixView) (plan plan' : Plan) (blocks blocks' : List (List ℕ))
    → IsMatrixFor said one
    → IsMatrixFor said other
    → IsDrawn said.base said.lines one likings plan blocks → IsDrawn said.base said.lines other likings plan' blocks' → blocks ≡ blocks'
one-list likings said one other plan plan' blocks blocks' is is' drawn drawn' =
    drawn-are likings said one plan blocks drawn ∙ ap (blocks_after likings said) (one-matrix said one other is is')
    ∙ sym (drawn-are likings said other plan' blocks' drawn')
