-- First in, first out: which trip follows on which where vehicles never run empty.
use Rattle.std.specs.Prelude.{◌≡◌, ◌⊎◌, ℕ, zero, suc, ◌<◌, ◌≤◌, ◌&&◌, nat_lt, Bool, true, List, length, fold, replicate, slice_set, Option}
use Rattle.std.specs.Prelude.{None, Some, is_none, if◌then◌else◌}
use Rattle.trip_model.specs.Links.{next_of}
use Rattle.trip_model.specs.Order.{minute_arrived, by_departure}
use Rattle.trip_model.specs.Plain.{move_at, meets}
use Rattle.trip_model.specs.declared.trip.Move.{Move}

-- the vehicle of i is free, as no next trip was found for it yet, and stands where j begins when j departs
abbrev pub may_precede : List (Option Move) → List (Option ℕ) → ℕ → ℕ → Bool
may_precede moves links j i = is_none (next_of links i) && meets (move_at moves i) (move_at moves j)

-- the trip of i ends before that of the other slot; true where there is none yet
abbrev pub ends_before : List (Option Move) → ℕ → Option ℕ → Bool
ends_before moves i None = true
ends_before moves i (Some other) = nat_lt (minute_arrived (move_at moves i)) (minute_arrived (move_at moves other))

-- the better forerunner of j: i, where it may precede j and ends before the best so far; else the best so far
abbrev pub better : List (Option Move) → List (Option ℕ) → ℕ → ℕ → Option ℕ → Option ℕ
better moves links j i best = if may_precede moves links j i && ends_before moves i best then Some i else best

-- of the slots below a bound that may precede j, the one that ends first, and of those that end together the least
abbrev pub forerunner_below : List (Option Move) → List (Option ℕ) → ℕ → ℕ → Option ℕ
forerunner_below moves links j zero = None
forerunner_below moves links j (suc i) = better moves links j i (forerunner_below moves links j i)

-- word: forerunner = first-in, first-out predecessor
-- the slot after which j is made, where there is one
abbrev pub forerunner : List (Option Move) → List (Option ℕ) → ℕ → Option ℕ
forerunner moves links j = forerunner_below moves links j (length moves)

-- the links with one more to j, where j has a forerunner
abbrev pub with_link : List (Option ℕ) → Option ℕ → ℕ → List (Option ℕ)
with_link links None j = links
with_link links (Some i) j = slice_set links i (Some j)

-- rule: first in, first out
-- trip by trip in order of departure, each is linked to its forerunner
unfoldable pub first_in_first_out : List (Option Move) → List (Option ℕ)
first_in_first_out moves = fold (λ links j. with_link links (forerunner moves links j) j) (replicate (length moves) None)
    (by_departure moves)

-- what a forerunner is: no slot that may precede j ends before it, and none that ends together with it has a lesser
-- number. There is none only where no slot may precede j
abbrev pub IsForerunner : List (Option Move) → List (Option ℕ) → ℕ → Option ℕ → Type 0
IsForerunner moves links j None = (h : ℕ) → h < length moves → may_precede moves links j h ≡ true → ⊥
IsForerunner moves links j (Some i) =
    (i < length moves) × (may_precede moves links j i ≡ true)
    × ((h : ℕ) → h < length moves → may_precede moves links j h ≡ true
    → (minute_arrived (move_at moves i) < minute_arrived (move_at moves h))
    ⊎ ((minute_arrived (move_at moves i) ≡ minute_arrived (move_at moves h)) × (i ≤ h)))
