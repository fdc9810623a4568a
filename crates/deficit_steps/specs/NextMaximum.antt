-- The first minute from some minute on at which a function of the minute has its greatest value.
use Rattle.std.specs.Prelude.{◌≡◌, ℕ, ◌<◌, ◌≤◌, ℤ, ◌<ℤ◌}
use Rattle.trip_model.specs.declared.limits.TheConstants.{LAST_MINUTE}
use Rattle.trip_model.specs.Maximum.{first_maximum}

-- d has its greatest value at the minute `at`, and at no minute between `from` and that one
pub record IsNextMaximum (d : ℕ → ℤ) (from : ℕ) (at : ℕ) : Type 0 where
  pub not_before : from ≤ at
  pub within : at ≤ LAST_MINUTE
  pub reached : d at ≡ (first_maximum d).0
  pub first : (t : ℕ) → from ≤ t → t < at → d t <ℤ (first_maximum d).0

-- d is below its greatest value from this minute on
abbrev pub NoNextMaximum : (ℕ → ℤ) → ℕ → Type 0
NoNextMaximum d from = (t : ℕ) → from ≤ t → t ≤ LAST_MINUTE → d t <ℤ (first_maximum d).0
