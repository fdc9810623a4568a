-- How much each preference counts.
use Rattle.std.specs.Prelude.{ℕ, ◌*◌, List, [], ◌∷◌, if◌then◌else◌}
use Rattle.trip_model.specs.declared.limits.TheConstants.{MINUTES, MOST_SLOTS}
use Rattle.desk_settings.specs.Prefer.{is_same}
use Rattle.desk_settings.specs.declared.prefer.Preference.{Preference}
use Rattle.desk_settings.specs.declared.prefer.Preference.TheVariants.{Stated, Line, Waiting}

-- What all links of a plan have of a preference is below this: they are fewer than slots, and each has one neighbour as stated, one
-- line, and fewer minutes that are not waited than there are.
abbrev pub range_of : Preference → ℕ
range_of Stated = MOST_SLOTS
range_of Line = MOST_SLOTS
range_of Waiting = MOST_SLOTS * MINUTES

-- the ranges of preferences, multiplied
abbrev pub ranges : List Preference → ℕ
ranges [] = 1
ranges (p ∷ order) = range_of p * ranges order

-- rule: how much a preference counts
-- A preference counts more than all that stand behind it can count together: the product of their ranges. One that is not
-- preferred counts nothing.
abbrev pub unit_of : Preference → List Preference → ℕ
unit_of p [] = 0
unit_of p (q ∷ order) = if is_same p q then ranges order else unit_of p order
