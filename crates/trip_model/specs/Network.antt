-- Which trips run, and which two trips one vehicle can make one after the other.
use Rattle.std.specs.Prelude.{◌≡◌, ℕ, ◌<◌, ◌≤◌, Bool, true, Option, IsSome}
use Rattle.trip_model.specs.declared.limits.TheConstants.{LAST_MINUTE}

-- Trips by the numbers of their slots. `empty i j` is how many minutes a vehicle runs empty from trip i to trip j, where it can
-- make j next. `out` and `home` are the empty minutes before the first trip of a block and after its last.
pub record Network : Type 0 where
  pub live : ℕ → Bool
  pub empty : ℕ → ℕ → Option ℕ
  pub out : ℕ → ℕ
  pub home : ℕ → ℕ

-- word: fits = compatible, feasible connection
-- one vehicle can make the trip of j next after that of i
abbrev pub Fits : Network → ℕ → ℕ → Type 0
Fits network i j = IsSome (network.empty i j)

-- Of two trips that fit both run, and the first departs before the second, in the minutes 0 to 8,191.
pub record AreDepartures (network : Network) (departs : ℕ → ℕ) : Type 0 where
  pub runs : (i j : ℕ) → Fits network i j → (network.live i ≡ true) × (network.live j ≡ true)
  pub rises : (i j : ℕ) → Fits network i j → departs i < departs j
  pub within : (i j : ℕ) → Fits network i j → departs j ≤ LAST_MINUTE
