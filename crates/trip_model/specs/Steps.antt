-- A function of the minute as its steps: the minutes at which it changes, each with its new value.
use Rattle.std.specs.Prelude.{ℕ, zero, suc, Bool, not, List, map, filter, fold, nat_le, ℤ, pos, if◌then◌else◌}
use Rattle.std.specs.List.{range_with_len}
use Rattle.std.specs.Ordering.{int_eq}
use Rattle.trip_model.specs.declared.limits.TheConstants.{MINUTES}

-- the value of d in the minute before, which is 0 before minute 0
abbrev pub value_before : (ℕ → ℤ) → ℕ → ℤ
value_before d zero = pos 0
value_before d (suc t) = d t

-- d has another value at t than in the minute before
abbrev pub is_step : (ℕ → ℤ) → ℕ → Bool
is_step d t = not (int_eq (d t) (value_before d t))

-- the steps of d before the minute `end`, in order, each with the value of d
unfoldable pub steps_before : (ℕ → ℤ) → ℕ → List (ℕ × ℤ)
steps_before d end = map (λ t. (t, d t)) (filter (is_step d) (range_with_len 0 end))

-- the steps of d in the minutes 0 to 8,191
unfoldable pub steps : (ℕ → ℤ) → List (ℕ × ℤ)
steps d = steps_before d MINUTES

-- what a list of steps says at the minute t: the value of its last step at or before t, else 0
abbrev pub value_of_steps : List (ℕ × ℤ) → ℕ → ℤ
value_of_steps list t = fold (λ v s. if nat_le s.0 t then s.1 else v) (pos 0) list
