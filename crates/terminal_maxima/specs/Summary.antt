-- What a summary of neighbouring leaves has to keep. `sums x n` says that x is a summary of n leaves.
use Rattle.std.specs.Prelude.{◌≡◌, ℕ, ◌+◌, ◌≤◌}
use Rattle.terminal_maxima.specs.declared.summary.TheConstants.{LEAVES}

-- two summaries may be joined: they sum so many leaves each, and no more than a tree has together
pub record MayJoin {S : Type 0} (sums : S → ℕ → Type 0) (left right : S) : Type 0 where
  pub left_leaves : ℕ
  pub right_leaves : ℕ
  pub left_sums : sums left left_leaves
  pub right_sums : sums right right_leaves
  pub within : left_leaves + right_leaves ≤ LEAVES

-- the unit sums no leaf, or one. A join sums the leaves of both sides.
-- On summaries of at most so many leaves `join` is associative and the unit is neutral.
pub record SummaryLaws {S : Type 0} (sums : S → ℕ → Type 0) (unit : S) (join : S → S → S) : Type 0 where
  pub sums_none : sums unit 0
  pub sums_one : sums unit 1
  pub sums_join : (x y : S) (m n : ℕ) → sums x m → sums y n → m + n ≤ LEAVES → sums (join x y) (m + n)
  pub assoc : (x y z : S) (k m n : ℕ) → sums x k → sums y m → sums z n → k + m + n ≤ LEAVES → join (join x y) z ≡ join x (join y z)
  pub unit_left : (x : S) (n : ℕ) → sums x n → n ≤ LEAVES → join unit x ≡ x
  pub unit_right : (x : S) (n : ℕ) → sums x n → n ≤ LEAVES → join x unit ≡ x
