-- The printed lines of deficits, where d is a function of the place and of the minute.
use Rattle.std.specs.Prelude.{ℕ, List, [], ◌∷◌, ◌++◌, length, ℤ, codes}
use Rattle.std.specs.Fmt.{signed_decimal}
use Rattle.std.specs.List.{flat_map, enumerate_from}
use Rattle.gtfs_tables.specs.Times.{minute_digits}
use Rattle.trip_model.specs.Maximum.{first_maximum, sum_of_maxima}
use Rattle.trip_model.specs.Steps.{steps}

-- the line of a step: a space, the minute, a space and the value
unfoldable pub step_line : ℕ × ℤ → List ℕ
step_line step = codes " " ++ minute_digits step.0 ++ codes " " ++ signed_decimal step.1 ++ 10 ∷ []

-- the lines of a place: its name with the maximum and the first minute that has it, and then its steps
unfoldable pub place_lines : List ℕ → (ℕ → ℤ) → List ℕ
place_lines name d =
    name ++ codes " max " ++ signed_decimal (first_maximum d).0 ++ codes " at " ++ minute_digits (first_maximum d).1 ++ 10 ∷ []
    ++ flat_map step_line (steps d)

-- the last line: the sum of the maxima
unfoldable pub sum_line : ℤ → List ℕ
sum_line sum = codes "sum " ++ signed_decimal sum ++ 10 ∷ []

-- rule: the text of `deficits`
-- the lines of the places in order of number, and then the sum
unfoldable pub deficit_text : List (List ℕ) → (ℕ → ℕ → ℤ) → List ℕ
deficit_text names d = flat_map (λ place. place_lines place.1 (d place.0)) (enumerate_from 0 names)
    ++ sum_line (sum_of_maxima d (length names))
