-- Links and prices by the slots of columns, and by their places in an order.
use Rattle.std.specs.Prelude.{◌≡◌, ℕ, ◌<◌, List, length, Option, Some}
use Rattle.assignment_model.specs.Prices.{price}
use Rattle.trip_model.specs.Links.{next_of}

-- rows are linked to the same columns, by slots and by places, and each column has one price
pub record AreRenamed (n : ℕ) (slot place : ℕ → ℕ) (next placed : List (Option ℕ)) (enter entering : List ℕ) : Type 0 where
  pub told : (i j : ℕ) → next_of next i ≡ Some j → (j < n) × (next_of placed i ≡ Some (place j))
  pub linked : (i k : ℕ) → next_of placed i ≡ Some k → (k < n) × (next_of next i ≡ Some (slot k))
  pub prices : (k : ℕ) → k < n → price entering k ≡ price enter (slot k)
  pub slots : length enter ≡ n
  pub places : length entering ≡ n
