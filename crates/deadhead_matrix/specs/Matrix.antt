-- What a matrix of deadheads is seen as.
use Rattle.std.specs.Prelude.{◌≡◌, ℕ, ◌<◌, ◌==◌, List, [], length, map, replicate, slice_index_or, All, Option, None, Some, if◌then◌else◌}
use Rattle.std.specs.List.{range_with_len}
use Rattle.pair_rules.specs.Rules.{PairRule}
use Rattle.deadhead_matrix.specs.declared.entry.Entry.{Entry}
use Rattle.deadhead_matrix.specs.declared.pulls.Pull.{Pull}
use Rattle.deadhead_matrix.specs.declared.pulls.TheConstants.{NO_PULL}
use Rattle.deadhead_matrix.specs.Rows.{walks_in}
use Rattle.deadhead_matrix.specs.Walks.{IsLeastWalk}

-- the entries of the planner, the minutes of a least walk from each place to each, the pulls of each place, and the rules of pairs
-- of trips
pub record MatrixView : Type 0 where
  pub entries : List Entry
  pub walks : List (List (Option ℕ))
  pub pulls : List Pull
  pub rules : List PairRule

-- the minutes of a least walk from a to b, or None where there is no walk
abbrev pub walk : MatrixView → ℕ → ℕ → Option ℕ
walk matrix a b = slice_index_or (slice_index_or matrix.walks a []) b None

-- between each two places the minutes are those of the least walk
abbrev pub AreLeastWalks : MatrixView → Type 0
AreLeastWalks matrix = (a b : ℕ) → a < length matrix.walks → b < length matrix.walks → IsLeastWalk matrix.entries a b (walk matrix a b)

-- from each place there is a walk, or none, to as many places as there are
abbrev pub IsSquare : MatrixView → Type 0
IsSquare matrix = All (λ row. length row ≡ length matrix.walks) matrix.walks

-- the matrix of entries, of how far, in rows of minutes, each place is from each, of pulls and of rules
abbrev pub matrix_from : List Entry → List (List ℕ) → List Pull → List PairRule → MatrixView
matrix_from entries rows pulls rules = record {
  entries = entries;
  walks = map (λ row. walks_in row (length rows)) rows;
  pulls = pulls;
  rules = rules;
}

-- without entries a vehicle runs empty from no place to another
abbrev pub standing : ℕ → ℕ → Option ℕ
standing a b = if a == b then Some 0 else None

-- the matrix of so many places without entries, pulls and rules
abbrev pub empty_matrix : ℕ → MatrixView
empty_matrix places = record {
  entries = [];
  walks = map (λ a. map (standing a) (range_with_len 0 places)) (range_with_len 0 places);
  pulls = replicate places NO_PULL;
  rules = [];
}
