-- No price is greater than what a vehicle and the longest ways home and out weigh.
use Rattle.std.proofs.Common.{◌≡◌, ◌≢◌, ℕ, ◌+◌, ◌-◌, ◌*◌, ◌<◌, ◌≤◌, true, length, Option, None, Some, refl, sym, ◌∙◌, arith}
use Rattle.std.specs.Option.{option_map, unwrap_or}
use Rattle.std.proofs.lemmas.Option.{none-some}
use Rattle.trip_model.specs.Links.{next_of, before_of}
use Rattle.trip_model.specs.Network.{Network, AreDepartures}
use Rattle.trip_model.proofs.BeforeLemmas.{next-before, before-next}
use Rattle.assignment_model.specs.Prices.{Plan, price, weight_to, IsCertified, IsDay, IsLoose}
use Rattle.assignment_model.proofs.Looseness.{IsLoose-certified}

-- no weight of a link is greater
weight-most : (network : Network) (slots : ℕ) → IsDay network slots → (i j : ℕ) → weight_to network i (Some j) ≤ 67108864 + 2 * 1440
weight-most network slots day i j = by (network.empty i j)
  where
    by : (minutes : Option ℕ) → unwrap_or (option_map (λ m. 67108864 + network.home i + network.out j - m) minutes) 0 ≤ 67108864 + 2 * 1440
    by None = omega arith
    by (Some m) = omega (arith, day.home i, day.out j)

-- a price of leaving is 0, or a part of the weight of a link
pub leave-most : (network : Network) (slots : ℕ) (plan : Plan) (a b : Option ℕ) → IsDay network slots → IsLoose network plan a b → (s : ℕ)
    → a ≢ Some s → price plan.leave s ≤ 67108864 + 2 * 1440
leave-most network slots plan a b day loose s linked = by (next_of plan.next s) refl
  where
    by : (next : Option ℕ) → next_of plan.next s ≡ next → price plan.leave s ≤ 67108864 + 2 * 1440
    by None e = omega (arith, loose.leave_zero s linked e)
    by (Some j) e = omega (arith, loose.tight s j e, weight-most network slots day s j)

-- and so is a price of entering
pub enter-most : (network : Network) (slots : ℕ) (plan : Plan) (a b : Option ℕ) → IsDay network slots → IsLoose network plan a b → (s : ℕ)
    → b ≢ Some s → price plan.enter s ≤ 67108864 + 2 * 1440
enter-most network slots plan a b day loose s linked = by (before_of plan.next s) refl
  where
    by : (before : Option ℕ) → before_of plan.next s ≡ before → price plan.enter s ≤ 67108864 + 2 * 1440
    by None e = omega (arith, loose.enter_zero s linked (λ i next. none-some i (sym e ∙ before-next plan.next i s loose.links.once next)))
    by (Some i) e = omega (arith, loose.tight i s (next-before plan.next i s e), weight-most network slots day i s)

-- of a certified plan that is every price
pub certified-most : (network : Network) (slots : ℕ) (plan : Plan) (departs : ℕ → ℕ) → IsDay network slots → length plan.next ≡ slots
    → IsCertified network plan → AreDepartures network departs
    → (s : ℕ) → (price plan.leave s ≤ 67108864 + 2 * 1440) × (price plan.enter s ≤ 67108864 + 2 * 1440)
certified-most network slots plan departs day size proved clock s =
    let within : (r : ℕ) → network.live r ≡ true → r < length plan.next = λ r live. omega (arith, day.within r live, size) in
    let loose = IsLoose-certified network departs plan clock within proved in (
      leave-most network slots plan None None day loose s (λ e. none-some s e),
      enter-most network slots plan None None day loose s
          (λ e. none-some s e),
    )
