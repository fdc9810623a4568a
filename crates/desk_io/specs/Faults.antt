-- When a count of faults rose in a call. A count stays at the last value of a u64.
use Rattle.std.specs.Prelude.{◌≡◌, ℕ, ◌+◌, ◌-◌, ◌^◌, ◌<◌, ◌≤◌, min}

-- the last value of a u64
abbrev pub LAST_COUNT : ℕ
LAST_COUNT = 2 ^ 64 - 1

-- the count after one more fault
abbrev pub one_more : ℕ → ℕ
one_more count = min (count + 1) LAST_COUNT

-- the count rose: it is greater than before the call, or is at the last value
abbrev pub Rose : ℕ → ℕ → Type 0
Rose before now = one_more before ≤ now

-- no fault was counted: the count is as before the call, and below the last value
pub record NoneCounted (before now : ℕ) : Type 0 where
  pub same : now ≡ before
  pub below : now < LAST_COUNT
