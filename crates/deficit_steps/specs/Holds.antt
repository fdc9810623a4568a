-- When deficits hold a list of moves.
use Rattle.std.specs.Prelude.{◌≡◌, ℕ, ◌<◌, ◌≤◌, ◌==◌, ◌&&◌, List, length, count_by, ℤ, pos, ◌-ℤ◌}
use Rattle.trip_model.specs.declared.limits.TheConstants.{LAST_MINUTE}
use Rattle.trip_model.specs.declared.trip.Move.{Move}
use Rattle.deficit_steps.specs.Changes.{change_at}

-- how many of the moves leave the place in the minute
abbrev pub leaving : List Move → ℕ → ℕ → ℕ
leaving moves place minute = count_by (λ m. (m.from == place) && (m.leaves == minute)) moves

-- how many of the moves arrive at the place in the minute
abbrev pub arriving : List Move → ℕ → ℕ → ℕ
arriving moves place minute = count_by (λ m. (m.to == place) && (m.arrives == minute)) moves

-- each change is the number of the moves that leave the place in the minute less the number that arrive there in it
pub record Holds (deficits : List (List ℤ)) (moves : List Move) : Type 0 where
  pub change : (place minute : ℕ) → place < length deficits → minute ≤ LAST_MINUTE
      → change_at deficits place minute ≡ pos (leaving moves place minute) -ℤ pos (arriving moves place minute)
