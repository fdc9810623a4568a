-- The prices of a certified plan are together those of its links, and one slot at least has none.
use Rattle.std.proofs.Common.{◌≡◌, ℕ, zero, suc, ◌+◌, ◌*◌, ◌<◌, ◌≤◌, true, List, length, Option, None, Some, refl, sym, ap, ◌∙◌, ⊎_elim}
use Rattle.std.proofs.Common.{arith}
use Rattle.std.specs.List.{sum}
use Rattle.std.proofs.lemmas.Bool.{cases_eq, cases_lt}
use Rattle.trip_model.specs.Links.{next_of, AreLinks}
use Rattle.trip_model.specs.Network.{Network, AreDepartures}
use Rattle.trip_model.proofs.Counting.{sum_below}
use Rattle.assignment_model.specs.Prices.{Plan, weight_to, IsCertified, IsDay}
use Rattle.assignment_model.proofs.Duality.{fitting, worth_is, sum_by-range}
use Rattle.assignment_model.proofs.Looseness.{links-within}

-- some slot has no next trip
HasEnd : List (Option ℕ) → Type 0
HasEnd links = (s : ℕ) × (s < length links) × (next_of links s ≡ None)

-- where the links go on from a slot, they come to one that departs later
link-on : (network : Network) (departs : ℕ → ℕ) (links : List (Option ℕ)) → AreDepartures network departs
    → ((s : ℕ) → network.live s ≡ true → s < length links) → AreLinks network links
    → (i : ℕ) → i < length links → ((j : ℕ) → j < length links → departs i < departs j → departs j ≤ 8191 → HasEnd links)
    → (next : Option ℕ) → next_of links i ≡ next → HasEnd links
unfolding HasEnd
link-on network departs links clock within are i i_in on None e = (i, i_in, e)
link-on network departs links clock within are i i_in on (Some j) e =
    let fits = are.fits i j e in
    on j (links-within network departs links clock within are i j e).1 (clock.rises i j fits) (clock.within i j fits)

-- so they end within the day
link-end : (network : Network) (departs : ℕ → ℕ) (links : List (Option ℕ)) → AreDepartures network departs
    → ((s : ℕ) → network.live s ≡ true → s < length links) → AreLinks network links
    → (left i : ℕ) → i < length links → 8191 ≤ departs i + left → HasEnd links
link-end network departs links clock within are zero i i_in late =
    link-on network departs links clock within are i i_in (λ j j_in later day. absurd (omega (arith, late, later, day))) (next_of links i)
    refl
link-end network departs links clock within are (suc left) i i_in late =
    link-on network departs links clock within are i i_in
    (λ j j_in later day. link-end network departs links clock within are left j j_in (omega (arith, late, later))) (next_of links i)
    refl

-- no link weighs more than a vehicle and the longest ways home and out
weight-most : (network : Network) (slots : ℕ) (links : List (Option ℕ)) → IsDay network slots → AreLinks network links
    → (i : ℕ) (next : Option ℕ) → next_of links i ≡ next
    → weight_to network i next ≤ 67111744
weight-most network slots links day are i None e = omega arith
weight-most network slots links day are i (Some j) e =
    let m = fitting network i j (are.fits i j e) in
    omega (arith, worth_is network i j m.0 m.1, day.home i, day.out j)

sum_below-most : (f : ℕ → ℕ) (n : ℕ) → ((i : ℕ) → f i ≤ 67111744) → sum_below f n ≤ 67111744 * n
sum_below-most f zero most = omega arith
sum_below-most f (suc n) most = omega (arith, sum_below-most f n most, most n)

-- a sum of which one term is 0
sum_below-but_one : (f : ℕ → ℕ) (n s : ℕ) → ((i : ℕ) → f i ≤ 67111744) → s < n → f s ≡ 0 → sum_below f n + 67111744 ≤ 67111744 * n
sum_below-but_one f zero s most within none = absurd (omega arith)
sum_below-but_one f (suc n) s most within none = ⊎_elim
    (λ (same : s ≡ n). let last : f n ≡ 0 = sym (ap f same) ∙ none in omega (arith, sum_below-most f n most, last))
    (λ (differs : s ≡ n → ⊥). omega (arith, sum_below-but_one f n s most (omega (arith, within, differs)) none, most n))
    (cases_eq s n)

-- 4,095 links at most
pub sum-prices : (network : Network) (slots : ℕ) (plan : Plan) (departs : ℕ → ℕ) → IsDay network slots → length plan.next ≡ slots
    → IsCertified network plan → AreDepartures network departs
    → sum plan.leave + sum plan.enter ≤ 4095 * 67111744
unfolding HasEnd
sum-prices network slots plan departs day len proved clock = ⊎_elim
    (λ (some : 0 < n).
    let end = link-end network departs plan.next clock within proved.links 8191 0 some (omega arith) in
    let none : f end.0 ≡ 0 = ap (weight_to network end.0) end.2 in
    omega (arith, all, sum_below-but_one f n end.0 most end.1 none, few))
    (λ (none : n ≤ 0). omega (arith, all, sum_below-most f n most, none))
    (cases_lt 0 n)
  where
    n : ℕ
    n = length plan.next

    f : ℕ → ℕ
    f i = weight_to network i (next_of plan.next i)

    most : (i : ℕ) → f i ≤ 67111744
    most i = weight-most network slots plan.next day proved.links i (next_of plan.next i) refl

    within : (s : ℕ) → network.live s ≡ true → s < n
    within s live = omega (arith, day.within s live, len)

    few : n ≤ 4096
    few = omega (arith, day.few, len)

    all : sum plan.leave + sum plan.enter ≡ sum_below f n
    all = proved.sums ∙ sum_by-range f n
