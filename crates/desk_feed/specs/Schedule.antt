-- The matrix of a feed, and the most steps of a plan, for every command that has blocks.
use Rattle.std.specs.Prelude.{◌≡◌, ℕ, ◌+◌, ◌*◌, List, length}
use Rattle.pair_rules.specs.Rules.{PairRule}
use Rattle.deadhead_matrix.specs.declared.entry.Entry.{Entry}
use Rattle.deadhead_matrix.specs.declared.pulls.Pull.{Pull}
use Rattle.deadhead_matrix.specs.Matrix.{MatrixView, AreLeastWalks, IsSquare}
use Rattle.desk_feed.specs.Feed.{FeedView}

-- The matrix has the least walks of the entries between so many places, the pulls, and the rules of pairs. There is one such matrix.
pub record IsMatrixOf (entries : List Entry) (pulls : List Pull) (rules : List PairRule) (places : ℕ) (matrix : MatrixView) : Type 0 where
  pub entries_are : matrix.entries ≡ entries
  pub pulls_are : matrix.pulls ≡ pulls
  pub rules_are : matrix.rules ≡ rules
  pub count : length matrix.walks ≡ places
  pub square : IsSquare matrix
  pub walks : AreLeastWalks matrix

-- the matrix of what a feed says: no edit changes the places
abbrev pub IsMatrixFor : FeedView → MatrixView → Type 0
IsMatrixFor said matrix = IsMatrixOf said.entries said.pulls said.rules (length said.base.places) matrix

-- the most steps that a plan of n trips from scratch counts: cube and square for the plan, and 28 each for the deficits
abbrev pub most_steps : ℕ → ℕ
most_steps n = n * n * n + n * n + 28 * n
