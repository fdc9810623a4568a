-- When prices tell that blocks are least: nothing of them is lost on a pair, or at an end of a block.
use Rattle.std.specs.Prelude.{◌≡◌, ℕ, ◌+◌, List, [], ◌∷◌, Some}
use Rattle.trip_model.specs.Network.{Network}
use Rattle.assignment_model.specs.Prices.{Plan, price, weight}

-- word: tight = of reduced cost zero
-- the two prices of a pair are together exactly its weight
abbrev pub IsTight : Network → Plan → ℕ → ℕ → Type 0
IsTight network plan i j = weight network i j ≡ Some (price plan.leave i + price plan.enter j)

-- after a trip come these: each pair is tight, and leaving the last trip has no price
abbrev pub AreTightAfter : Network → Plan → ℕ → List ℕ → Type 0
AreTightAfter network plan i [] = price plan.leave i ≡ 0
AreTightAfter network plan i (j ∷ js) = IsTight network plan i j × AreTightAfter network plan j js

-- rule: which blocks are least, by prices
-- a block along which each pair is tight; entering its first trip has no price, nor has leaving its last
abbrev pub IsTightBlock : Network → Plan → List ℕ → Type 0
IsTightBlock network plan [] = ⊥
IsTightBlock network plan (i ∷ js) = (price plan.enter i ≡ 0) × AreTightAfter network plan i js
