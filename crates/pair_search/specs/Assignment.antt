-- Rows that are assigned to columns, with a price for each row and each column.
use Rattle.std.specs.Prelude.{◌≡◌, ◌≢◌, ℕ, ◌+◌, ◌<◌, ◌≤◌, Bool, true, false, List, Option, None, Some}
use Rattle.pair_search.specs.declared.limits.TheConstants.{GREATEST_PRICE}
use Rattle.assignment_model.specs.Prices.{price}
use Rattle.trip_model.specs.Links.{next_of, AreApart}

-- what pairs of a row and a column weigh, of so many each; None where the two do not fit
pub record AreWeights (w : ℕ → ℕ → Option ℕ) (n : ℕ) : Type 0 where
  pub within : (i j k : ℕ) → w i j ≡ Some k → (i < n) × (j < n)
  pub most : (i j k : ℕ) → w i j ≡ Some k → k ≤ GREATEST_PRICE

-- Links from rows to columns with prices that together are the weight of each. A row that is left out has no link, nor has
-- a; nothing fits b. Where a row other than a, or a column other than b, has no link, it has no price either.
pub record IsMatched (w : ℕ → ℕ → Option ℕ) (out : ℕ → Bool) (a b : Option ℕ) (next : List (Option ℕ)) (leave enter : List ℕ) : Type 0 where
  pub once : AreApart next
  pub tight : (i j : ℕ) → next_of next i ≡ Some j → w i j ≡ Some (price leave i + price enter j)
  pub left : (i : ℕ) → out i ≡ true → next_of next i ≡ None
  pub first : (i : ℕ) → a ≡ Some i → next_of next i ≡ None
  pub last : (i j : ℕ) → b ≡ Some j → w i j ≡ None
  pub leave_zero : (i : ℕ) → a ≢ Some i → next_of next i ≡ None → price leave i ≡ 0
  pub enter_zero : (j : ℕ) → b ≢ Some j → ((i : ℕ) → next_of next i ≢ Some j) → price enter j ≡ 0

-- on each pair that fits, but of rows that are left out and of a, the two prices reach the weight
abbrev pub Covers : (ℕ → ℕ → Option ℕ) → (ℕ → Bool) → Option ℕ → List ℕ → List ℕ → Type 0
Covers w out a leave enter = (i j k : ℕ) → out i ≡ false → a ≢ Some i → w i j ≡ Some k → k ≤ price leave i + price enter j

-- a search may begin at a row. Links are matched but for it and for b, prices cover the other rows, and it is not left out
pub record MayBegin (w : ℕ → ℕ → Option ℕ) (n : ℕ) (out : ℕ → Bool) (a : ℕ) (b : Option ℕ) (next : List (Option ℕ))
    (leave enter : List ℕ) : Type 0 where
  pub start : a < n
  pub inside : out a ≡ false
  pub matched : IsMatched w out (Some a) b next leave enter
  pub covers : Covers w out (Some a) leave enter
