-- Blocks, the trips that one vehicle makes one after the other, as lists of slots; and when a list of blocks is least.
use Rattle.std.specs.Prelude.{◌≡◌, ℕ, ◌+◌, ◌≤◌, ◌==◌, Bool, cond, List, [], ◌∷◌, length, count_by, sum_by, unwrap_or, ⊤}
use Rattle.std.specs.List.{flat_map, AllByRecursion}
use Rattle.trip_model.specs.Network.{Network, Fits}

-- how often a slot is in a list
abbrev pub times : ℕ → List ℕ → ℕ
times s slots = count_by (λ x. x == s) slots

-- each live slot is in the list exactly once, and no other slot is there
pub record StandsOnce (live : ℕ → Bool) (slots : List ℕ) : Type 0 where
  pub once : (s : ℕ) → times s slots ≡ cond (live s) 1 0

-- a vehicle that has made the trip of i can make those of the list, one after the other
abbrev pub Follow : Network → ℕ → List ℕ → Type 0
Follow network i [] = ⊤
Follow network i (j ∷ js) = Fits network i j × Follow network j js

-- a block has a trip, and one vehicle can make its trips one after the other
abbrev pub IsBlock : Network → List ℕ → Type 0
IsBlock network [] = ⊥
IsBlock network (i ∷ js) = Follow network i js

-- the slots of all blocks, block by block
abbrev pub slots_in : List (List ℕ) → List ℕ
slots_in blocks = flat_map (λ block. block) blocks

-- word: blocking = vehicle schedule
-- blocks that have each live slot exactly once, and no other slot
pub record IsBlocking (network : Network) (blocks : List (List ℕ)) : Type 0 where
  pub stands : StandsOnce network.live (slots_in blocks)
  pub each : AllByRecursion (IsBlock network) blocks

-- the empty minutes after the trip of i: to each trip that follows, and home after the last
abbrev pub minutes_after : Network → ℕ → List ℕ → ℕ
minutes_after network i [] = network.home i
minutes_after network i (j ∷ js) = unwrap_or (network.empty i j) 0 + minutes_after network j js

-- the empty minutes of a block
abbrev pub block_minutes : Network → List ℕ → ℕ
block_minutes network [] = 0
block_minutes network (i ∷ js) = network.out i + minutes_after network i js

-- rule: the empty minutes of blocks
-- the empty minutes of all blocks
abbrev pub empty_minutes : Network → List (List ℕ) → ℕ
empty_minutes network blocks = sum_by (block_minutes network) blocks

-- word: fewest = minimum fleet
-- no blocking has fewer vehicles
pub record IsFewest (network : Network) (blocks : List (List ℕ)) : Type 0 where
  pub blocking : IsBlocking network blocks
  pub fewest : (others : List (List ℕ)) → IsBlocking network others → length blocks ≤ length others

-- rule: which blocks are least
-- word: least = minimum fleet, and then minimum deadhead minutes
-- no blocking has fewer vehicles, and none with as few has fewer empty minutes
pub record IsLeast (network : Network) (blocks : List (List ℕ)) : Type 0 where
  pub fewest : IsFewest network blocks
  pub shortest : (others : List (List ℕ)) → IsBlocking network others → length others ≡ length blocks
      → empty_minutes network blocks ≤ empty_minutes network others
