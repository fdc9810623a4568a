-- The sum of neighbouring leaves with the greatest of their prefix sums.
use Rattle.std.specs.Prelude.{◌≡◌, ℕ, ◌*◌, ◌≤◌, pos, ◌+ℤ◌, neg_ℤ, ◌≤ℤ◌}
use Rattle.std.specs.Int.{int_max}
use Rattle.terminal_maxima.specs.declared.max_prefix.MaxPrefix.{MaxPrefix}
use Rattle.terminal_maxima.specs.declared.max_prefix.TheConstants.{MOST_CHANGE}

-- of no leaf the sum is 0
abbrev pub no_leaf : MaxPrefix
no_leaf = record { sum = pos 0; high = pos 0 }

-- the greatest prefix sum of both is that of the left side, or the sum of the left side and that of the right
abbrev pub both : MaxPrefix → MaxPrefix → MaxPrefix
both left right = record { sum = left.sum +ℤ right.sum; high = int_max left.high (left.sum +ℤ right.high) }

-- the bounds of so many leaves, each of at most 65,536 either way.
-- Of one leaf the greatest prefix sum is the greater of 0 and the sum.
pub record SumsLeaves (prefix : MaxPrefix) (leaves : ℕ) : Type 0 where
  pub above : neg_ℤ (pos (MOST_CHANGE * leaves)) ≤ℤ prefix.sum
  pub below : prefix.sum ≤ℤ prefix.high
  pub from_zero : pos 0 ≤ℤ prefix.high
  pub high_below : prefix.high ≤ℤ pos (MOST_CHANGE * leaves)
  pub of_one : leaves ≤ 1 → prefix.high ≡ int_max (pos 0) prefix.sum
