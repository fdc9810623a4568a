-- The greatest value of a function of the minute over the minutes 0 to 8,191, and the first minute that has it.
use Rattle.std.specs.Prelude.{◌≡◌, ℕ, suc, zero, ◌<◌, ◌≤◌, ℤ, pos, ◌+ℤ◌, ◌≤ℤ◌, ◌<ℤ◌, int_lt, if◌then◌else◌}
use Rattle.trip_model.specs.declared.limits.TheConstants.{LAST_MINUTE}

-- `high` is the greatest value of d, and d has it at the minute `at` for the first time
pub record IsFirstMaximum (d : ℕ → ℤ) (high : ℤ) (at : ℕ) : Type 0 where
  pub within : at ≤ LAST_MINUTE
  pub reached : d at ≡ high
  pub greatest : (t : ℕ) → t ≤ LAST_MINUTE → d t ≤ℤ high
  pub first : (t : ℕ) → t < at → d t <ℤ high

-- the greatest value of d over the minutes up to `last`, and the first of them that has it
unfoldable pub first_maximum_up_to : (ℕ → ℤ) → ℕ → ℤ × ℕ
first_maximum_up_to d zero = (d 0, 0)
first_maximum_up_to d (suc last) =
    let before = first_maximum_up_to d last in
    if int_lt before.0 (d (suc last)) then (d (suc last), suc last) else before

-- rule: the maximum of a deficit, and its first minute
-- the greatest value of d over all minutes, and its first minute
unfoldable pub first_maximum : (ℕ → ℤ) → ℤ × ℕ
first_maximum d = first_maximum_up_to d LAST_MINUTE

-- the sum of the maxima of the places below `places`, where d is a function of the place and of the minute
abbrev pub sum_of_maxima : (ℕ → ℕ → ℤ) → ℕ → ℤ
sum_of_maxima d zero = pos 0
sum_of_maxima d (suc places) = sum_of_maxima d places +ℤ (first_maximum (d places)).0
