-- The printed lines of joined deficits. `joined` and `before` are functions of the place and of the minute, with the deadheads
-- put in and without them.
use Rattle.std.specs.Prelude.{ℕ, List, [], ◌∷◌, ◌++◌, length, ℤ, codes}
use Rattle.std.specs.Fmt.{decimal, signed_decimal}
use Rattle.std.specs.List.{flat_map, enumerate_from}
use Rattle.gtfs_tables.specs.Times.{minute_digits}
use Rattle.trip_model.specs.Maximum.{first_maximum, sum_of_maxima}
use Rattle.trip_model.specs.Steps.{steps}
use Rattle.deficit_steps.specs.Lines.{step_line}

-- the lines of a place: its name with the maximum, the first minute of that, and the maximum without the deadheads; then its
-- steps
unfoldable pub joined_place : List ℕ → (ℕ → ℤ) → (ℕ → ℤ) → List ℕ
joined_place name joined before =
    name ++ codes " max " ++ signed_decimal (first_maximum joined).0 ++ codes " at " ++ minute_digits (first_maximum joined).1
    ++ codes ", was " ++ signed_decimal (first_maximum before).0 ++ 10 ∷ [] ++ flat_map step_line (steps joined)

-- the last line: the sum of the maxima, and how many blocks there are
unfoldable pub joined_sum : ℤ → ℕ → List ℕ
joined_sum sum blocks = codes "sum " ++ signed_decimal sum ++ codes ", blocks " ++ decimal blocks ++ 10 ∷ []

-- the lines of the places in order of number, and then the last line
unfoldable pub joined_text : List (List ℕ) → (ℕ → ℕ → ℤ) → (ℕ → ℕ → ℤ) → ℕ → List ℕ
joined_text names joined before blocks =
    flat_map (λ place. joined_place place.1 (joined place.0) (before place.0)) (enumerate_from 0 names)
    ++ joined_sum (sum_of_maxima joined (length names)) blocks
