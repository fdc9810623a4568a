-- The greatest prefix sum, and the first place whose prefix sum reaches a value.
use Rattle.std.specs.Prelude.{◌≡◌, ◌⊎◌, ℕ, ◌+◌, ◌<◌, ◌≤◌, List, length, take, fold, pos, ◌+ℤ◌, ◌≤ℤ◌, ◌<ℤ◌, ℤ}
use Rattle.terminal_maxima.specs.declared.max_prefix.MaxPrefix.{MaxPrefix}

-- the sum of all leaves
abbrev pub total : List MaxPrefix → ℤ
total leaves = fold (λ sum leaf. sum +ℤ leaf.sum) (pos 0) leaves

-- the sum of the leaves up to a place, that place included
abbrev pub prefix_sum : List MaxPrefix → ℕ → ℤ
prefix_sum leaves place = total (take (place + 1) leaves)

-- the place is the first one, not before `from`, whose prefix sum is at least the value
pub record IsFirstReaching (leaves : List MaxPrefix) (from : ℕ) (value : ℤ) (place : ℕ) : Type 0 where
  pub not_before : from ≤ place
  pub in_range : place < length leaves
  pub reaches : value ≤ℤ prefix_sum leaves place
  pub first : (earlier : ℕ) → from ≤ earlier → earlier < place → prefix_sum leaves earlier <ℤ value

-- no place, not before `from`, has a prefix sum of at least the value
abbrev pub NoneReaches : List MaxPrefix → ℕ → ℤ → Type 0
NoneReaches leaves from value = (place : ℕ) → from ≤ place → place < length leaves → prefix_sum leaves place <ℤ value

-- the value is the greatest of 0 and all prefix sums
pub record IsGreatestPrefix (leaves : List MaxPrefix) (value : ℤ) : Type 0 where
  pub from_zero : pos 0 ≤ℤ value
  pub above_all : (place : ℕ) → place < length leaves → prefix_sum leaves place ≤ℤ value
  pub attained : (value ≡ pos 0) ⊎ ((place : ℕ) × (place < length leaves) × (prefix_sum leaves place ≡ value))
