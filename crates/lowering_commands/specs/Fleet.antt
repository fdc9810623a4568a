-- The fleet of moves, and the last line of both commands.
use Rattle.std.specs.Prelude.{ℕ, List, [], ◌∷◌, ◌++◌, codes, unsigned_abs}
use Rattle.std.specs.Fmt.{decimal}
use Rattle.trip_model.specs.Deficit.{deficit}
use Rattle.trip_model.specs.Maximum.{sum_of_maxima}
use Rattle.trip_model.specs.declared.trip.Move.{Move}

-- the sum of the maxima of the deficits of moves between so many places, which is the fewest vehicles that make them
abbrev pub fleet_of : ℕ → List Move → ℕ
fleet_of places moves = unsigned_abs (sum_of_maxima (deficit moves) places)

-- how many of something there are, and the sum of the maxima with all of them
abbrev pub total_line : List ℕ → ℕ → ℕ → List ℕ
total_line word number sum = word ++ (decimal number ++ (codes ", sum " ++ (decimal sum ++ 10 ∷ [])))
