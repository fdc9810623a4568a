-- The inverse of links, as far as it has come.
use Rattle.std.specs.Prelude.{◌≡◌, ◌≢◌, ℕ, ◌<◌, List, Option, Some}
use Rattle.trip_model.specs.Links.{next_of, AreApart}

-- for each row below a number, `before` has it at the column that it is linked to. It has nothing else
pub record IsInverse (upto : ℕ) (next before : List (Option ℕ)) : Type 0 where
  pub told : (i j : ℕ) → i < upto → next_of next i ≡ Some j → next_of before j ≡ Some i
  pub linked : (i j : ℕ) → next_of before j ≡ Some i → (i < upto) × (next_of next i ≡ Some j)

-- `before` has each row at the column that it is linked to, but for one column that no row is linked to
pub record IsInverseBut (next before : List (Option ℕ)) (to : Option ℕ) : Type 0 where
  pub once : AreApart next
  pub free : (i j : ℕ) → to ≡ Some j → next_of next i ≢ Some j
  pub told : (i j : ℕ) → to ≢ Some j → next_of next i ≡ Some j → next_of before j ≡ Some i
  pub linked : (i j : ℕ) → to ≢ Some j → next_of before j ≡ Some i → next_of next i ≡ Some j
