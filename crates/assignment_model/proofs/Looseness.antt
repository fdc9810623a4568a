-- A loose plan from which nothing is left out is a certified one, and the other way round.
use Rattle.std.proofs.Common.{◌≡◌, ◌≢◌, ℕ, zero, suc, ◌+◌, ◌<◌, ◌≤◌, ◌==◌, true, cond, List, length, Option, None, Some, refl, sym, ap}
use Rattle.std.proofs.Common.{◌∙◌, ⊎_elim, inl, inr, ◌⊎◌, arith}
use Rattle.std.specs.Option.{unwrap_or}
use Rattle.std.proofs.lemmas.Bool.{cases_eq, cases_lt, eq-eqb, ne_eqb}
use Rattle.std.proofs.lemmas.List.{get_or_past}
use Rattle.std.proofs.lemmas.Option.{none-some, same_Some}
use Rattle.trip_model.specs.Links.{next_of, AreLinks}
use Rattle.trip_model.specs.Network.{Network, AreDepartures}
use Rattle.trip_model.proofs.Counting.{sum_below, sum_below-le, sum_below-same, sum_below-add, sum_below-zero, sum_below-raised}
use Rattle.assignment_model.specs.Prices.{weight, Plan, price, weight_to, IsCertified, IsLoose}
use Rattle.assignment_model.proofs.Duality.{sum_by-range, sum-below}

-- what a function gives at the end of a link, and 0 where there is none
beyond : (ℕ → ℕ) → Option ℕ → ℕ
beyond e None = 0
beyond e (Some j) = e j

-- a function with 0 in one place
off : (ℕ → ℕ) → ℕ → ℕ → ℕ
off e j s = cond (s == j) 0 (e s)

off-same : (e : ℕ → ℕ) (j s : ℕ) → s ≡ j → off e j s ≡ 0
unfolding off
off-same e j s same = ap (λ t. cond t 0 (e s)) (eq-eqb s j same)

off-other : (e : ℕ → ℕ) (j s : ℕ) → s ≢ j → off e j s ≡ e s
unfolding off
off-other e j s other = ap (λ t. cond t 0 (e s)) (ne_eqb s j other)

sum_below-off : (e : ℕ → ℕ) (n j : ℕ) → j < n → sum_below e n ≡ sum_below (off e j) n + e j
sum_below-off e n j h =
    let here = off-same e j j refl in
    sum_below-raised (off e j) e n j (e j) h (omega (arith, here)) (λ s other. sym (off-other e j s other))

beyond-off : (e : ℕ → ℕ) (q : ℕ) (next : Option ℕ) → next ≢ Some q → beyond (off e q) next ≡ beyond e next
unfolding beyond
beyond-off e q None other = refl
beyond-off e q (Some j) other = off-other e q j (λ same. other (ap Some same))

-- no more stands at the ends of links than at all slots
beyond-last : (to : ℕ → Option ℕ) (n m : ℕ) (e : ℕ → ℕ) → ((i j : ℕ) → i < suc m → to i ≡ Some j → j < n)
    → ((h i j : ℕ) → h < suc m → i < suc m → to h ≡ Some j → to i ≡ Some j → h ≡ i)
    → ((f : ℕ → ℕ) → sum_below (λ i. beyond f (to i)) m ≤ sum_below f n) → (next : Option ℕ) → to m ≡ next
    → sum_below (λ i. beyond e (to i)) m + beyond e (to m) ≤ sum_below e n
unfolding beyond
beyond-last to n m e within once rest None is = let none : beyond e (to m) ≡ 0 = ap (beyond e) is in omega (arith, rest e, none)
beyond-last to n m e within once rest (Some q) is =
    let here : beyond e (to m) ≡ e q = ap (beyond e) is in
    let same = sum_below-same (λ i. beyond (off e q) (to i)) (λ i. beyond e (to i)) m
    (λ i h. beyond-off e q (to i) (λ too. let e : i ≡ m = once i m q (omega arith) (omega arith) too is in omega (arith, e))) in
    omega (arith, rest (off e q), same, here, sum_below-off e n q (within m q (omega arith) is))

beyond-le : (to : ℕ → Option ℕ) (n m : ℕ) (e : ℕ → ℕ) → ((i j : ℕ) → i < m → to i ≡ Some j → j < n)
    → ((h i j : ℕ) → h < m → i < m → to h ≡ Some j → to i ≡ Some j → h ≡ i)
    → sum_below (λ i. beyond e (to i)) m ≤ sum_below e n
beyond-le to n zero e within once = omega arith
beyond-le to n (suc m) e within once =
    beyond-last to n m e within once
    (λ f. beyond-le to n m f (λ i j h. within i j (omega arith)) (λ h i j p q. once h i j (omega arith) (omega arith))) (to m) refl

-- and as much, where nothing stands at the other slots
beyond-more : (to : ℕ → Option ℕ) (n m : ℕ) (e : ℕ → ℕ) → ((i j : ℕ) → i < suc m → to i ≡ Some j → j < n)
    → ((h i j : ℕ) → h < suc m → i < suc m → to h ≡ Some j → to i ≡ Some j → h ≡ i)
    → ((j : ℕ) → j < n → ((i : ℕ) → i < suc m → to i ≢ Some j) → e j ≡ 0)
    → ((f : ℕ → ℕ) → ((j : ℕ) → j < n → ((i : ℕ) → i < m → to i ≢ Some j) → f j ≡ 0) → sum_below (λ i. beyond f (to i)) m ≡ sum_below f n)
    → (next : Option ℕ) → to m ≡ next → sum_below (λ i. beyond e (to i)) m + beyond e (to m) ≡ sum_below e n
unfolding beyond
beyond-more to n m e within once zeros rest None is =
    let none : beyond e (to m) ≡ 0 = ap (beyond e) is in
    let all = rest e (λ j h away. zeros j h (λ i lt. ⊎_elim
    (λ (same : i ≡ m). λ too. none-some j (sym is ∙ ap to (sym same) ∙ too))
    (λ (other : i ≡ m → ⊥). away i (omega arith))
    (cases_eq i m))) in
    omega (arith, none, all)
beyond-more to n m e within once zeros rest (Some q) is =
    let here : beyond e (to m) ≡ e q = ap (beyond e) is in
    let same = sum_below-same (λ i. beyond (off e q) (to i)) (λ i. beyond e (to i)) m
    (λ i h. beyond-off e q (to i) (λ too. let e : i ≡ m = once i m q (omega arith) (omega arith) too is in omega (arith, e))) in
    let all = rest (off e q) (λ j h away. ⊎_elim
    (λ (mine : j ≡ q). off-same e q j mine)
    (λ (other : j ≡ q → ⊥). off-other e q j other ∙ zeros j h (λ i lt. ⊎_elim
    (λ (last : i ≡ m). λ too. other (same_Some j q (sym too ∙ ap to last ∙ is)))
    (λ (before : i ≡ m → ⊥). away i (omega arith))
    (cases_eq i m)))
    (cases_eq j q)) in
    omega (arith, all, same, here, sum_below-off e n q (within m q (omega arith) is))

beyond-all : (to : ℕ → Option ℕ) (n m : ℕ) (e : ℕ → ℕ) → ((i j : ℕ) → i < m → to i ≡ Some j → j < n)
    → ((h i j : ℕ) → h < m → i < m → to h ≡ Some j → to i ≡ Some j → h ≡ i)
    → ((j : ℕ) → j < n → ((i : ℕ) → i < m → to i ≢ Some j) → e j ≡ 0) → sum_below (λ i. beyond e (to i)) m ≡ sum_below e n
beyond-all to n zero e within once zeros = sym (sum_below-zero e n (λ j h. zeros j h (λ i lt. absurd (omega arith))))
beyond-all to n (suc m) e within once zeros =
    beyond-more to n m e within once zeros
    (λ f. beyond-all to n m f (λ i j h. within i j (omega arith)) (λ h i j p q. once h i j (omega arith) (omega arith))) (to m) refl

-- terms that are no greater, with sums that are equal, are equal
same-terms : (f g : ℕ → ℕ) (n : ℕ) → ((s : ℕ) → s < n → f s ≤ g s) → sum_below f n ≡ sum_below g n → (s : ℕ) → s < n → f s ≡ g s
same-terms f g zero le sums s h = absurd (omega arith)
same-terms f g (suc n) le sums s h = ⊎_elim
    (λ (e : s ≡ n).
    let here : f n ≡ g n = omega (arith, sums, sum_below-le f g n (λ s h. le s (omega arith)), le n (omega arith)) in
    ap f e ∙ here ∙ ap g (sym e))
    (λ (ne : s ≡ n → ⊥).
    let rest : sum_below f n ≡ sum_below g n = omega (arith, sums, sum_below-le f g n (λ s h. le s (omega arith)), le n (omega arith)) in
    same-terms f g n (λ s h. le s (omega arith)) rest s (omega arith))
    (cases_eq s n)

-- the price of leaving a slot that has a next trip
kept : (ℕ → ℕ) → ℕ → Option ℕ → ℕ
kept e i None = 0
kept e i (Some j) = e i

-- the links of a plan are among its slots
pub links-within : (network : Network) (departs : ℕ → ℕ) (links : List (Option ℕ)) → AreDepartures network departs
    → ((s : ℕ) → network.live s ≡ true → s < length links) → AreLinks network links
    → (i j : ℕ) → next_of links i ≡ Some j → (i < length links) × (j < length links)
links-within network departs links clock within are i j e = let runs = clock.runs i j (are.fits i j e) in (within i runs.0, within j runs.1)

-- a plan, of which no pair and no trip is left out, is certified
pub IsCertified-loose : (network : Network) (departs : ℕ → ℕ) (plan : Plan) → AreDepartures network departs
    → ((s : ℕ) → network.live s ≡ true → s < length plan.next)
    → IsLoose network plan None None → IsCertified network plan
unfolding kept beyond
IsCertified-loose network departs plan clock within loose = record {
  leaves = loose.leaves;
  enters = loose.enters;
  links = loose.links;
  dead = loose.dead;
  covers = λ i j k e. loose.covers i j k (λ n. none-some i n) (λ n. none-some j n) e;
  sums =
      let n = length plan.next in
      let leave = sum_below-same (λ i. kept (price plan.leave) i (next_of plan.next i)) (price plan.leave) n
      (λ i h. leaving i (next_of plan.next i) refl) in
      let enter = beyond-all (next_of plan.next) n n (price plan.enter)
      (λ i j h e. (links-within network departs plan.next clock within loose.links i j e).1)
      (λ h i j p q e f. loose.links.once h i j e f)
      (λ j h away. loose.enter_zero j (λ m. none-some j m)
      (λ i e. away i (links-within network departs plan.next clock within loose.links i j e).0 e)) in
      let both = sum_below-add (λ i. kept (price plan.leave) i (next_of plan.next i))
      (λ i. beyond (price plan.enter) (next_of plan.next i)) n in
      let weights = sum_below-same (λ i. kept (price plan.leave) i (next_of plan.next i) + beyond (price plan.enter) (next_of plan.next i))
      (λ i. weight_to network i (next_of plan.next i)) n (λ i h. tight i (next_of plan.next i) refl) in
      let first = sum-below plan.leave ∙ ap (sum_below (price plan.leave)) loose.leaves in
      let second = sum-below plan.enter ∙ ap (sum_below (price plan.enter)) loose.enters in
      omega (arith, leave, enter, both, weights, first, second, sum_by-range (λ i. weight_to network i (next_of plan.next i)) n);
}
  where
    leaving : (i : ℕ) (next : Option ℕ) → next_of plan.next i ≡ next → kept (price plan.leave) i next ≡ price plan.leave i
    leaving i None e = sym (loose.leave_zero i (λ m. none-some i m) e)
    leaving i (Some j) e = refl

    tight : (i : ℕ) (next : Option ℕ) → next_of plan.next i ≡ next
        → kept (price plan.leave) i next + beyond (price plan.enter) next ≡ weight_to network i next
    tight i None e = refl
    tight i (Some j) e = loose.tight i j e

-- on a certified plan no price is spent past the weights
spent : (network : Network) (departs : ℕ → ℕ) (plan : Plan) → AreDepartures network departs
    → ((s : ℕ) → network.live s ≡ true → s < length plan.next) → IsCertified network plan
    → ((i : ℕ) → i < length plan.next
    → weight_to network i (next_of plan.next i) ≡ price plan.leave i + beyond (price plan.enter) (next_of plan.next i))
    × (sum_below (λ i. beyond (price plan.enter) (next_of plan.next i)) (length plan.next) ≡ sum_below (price plan.enter)
    (length plan.next))
unfolding beyond
spent network departs plan clock within proved =
    let n = length plan.next in
    let first = sum-below plan.leave ∙ ap (sum_below (price plan.leave)) proved.leaves in
    let second = sum-below plan.enter ∙ ap (sum_below (price plan.enter)) proved.enters in
    let most = sum_below-le (λ i. weight_to network i (next_of plan.next i))
    (λ i. price plan.leave i + beyond (price plan.enter) (next_of plan.next i)) n (λ i h. reach i (next_of plan.next i) refl) in
    let both = sum_below-add (price plan.leave) (λ i. beyond (price plan.enter) (next_of plan.next i)) n in
    let ends = beyond-le (next_of plan.next) n n (price plan.enter)
    (λ i j h e. (links-within network departs plan.next clock within proved.links i j e).1)
    (λ h i j p q e f. proved.links.once h i j e f) in
    let weights = sum_by-range (λ i. weight_to network i (next_of plan.next i)) n in
    let sums = proved.sums in (
      same-terms (λ i. weight_to network i (next_of plan.next i))
          (λ i. price plan.leave i + beyond (price plan.enter) (next_of plan.next i)) n (λ i h. reach i (next_of plan.next i) refl)
          (omega (arith, first, second, most, both, ends, weights, sums)),
      omega (arith, first, second, most, both, ends, weights, sums),
    )
  where
    enough : (i j : ℕ) (found : Option ℕ) → weight network i j ≡ found → unwrap_or found 0 ≤ price plan.leave i + price plan.enter j
    enough i j None e = omega arith
    enough i j (Some k) e = proved.covers i j k e

    reach : (i : ℕ) (next : Option ℕ) → next_of plan.next i ≡ next
        → weight_to network i next ≤ price plan.leave i + beyond (price plan.enter) next
    reach i None e = omega arith
    reach i (Some j) e = enough i j (weight network i j) refl

-- a certified plan is a plan on the way of which no pair and no trip is left out
pub IsLoose-certified : (network : Network) (departs : ℕ → ℕ) (plan : Plan) → AreDepartures network departs
    → ((s : ℕ) → network.live s ≡ true → s < length plan.next)
    → IsCertified network plan → IsLoose network plan None None
unfolding beyond
IsLoose-certified network departs plan clock within proved = record {
  leaves = proved.leaves;
  enters = proved.enters;
  links = proved.links;
  dead = proved.dead;
  before = tt;
  after = tt;
  covers = λ i j k _ _ e. proved.covers i j k e;
  tight = λ i j e. (let here : beyond (price plan.enter) (next_of plan.next i) ≡ price plan.enter j = ap (beyond (price plan.enter)) e in
      let weighs : weight_to network i (next_of plan.next i) ≡ weight_to network i (Some j) = ap (weight_to network i) e in
      let all = (spent network departs plan clock within proved).0 i
      (links-within network departs plan.next clock within proved.links i j e).0 in
      omega (arith, here, weighs, all));
  leave_zero = λ s _ e. leave_zero s e (cases_lt s (length plan.next));
  enter_zero = λ s _ away. enter_zero s away (cases_lt s (length plan.next));
}
  where
    leave_zero : (s : ℕ) → next_of plan.next s ≡ None → (s < length plan.next) ⊎ (length plan.next ≤ s) → price plan.leave s ≡ 0
    leave_zero s e (inl h) =
        let here : beyond (price plan.enter) (next_of plan.next s) ≡ 0 = ap (beyond (price plan.enter)) e in
        let weighs : weight_to network s (next_of plan.next s) ≡ 0 = ap (weight_to network s) e in
        let all = (spent network departs plan clock within proved).0 s h in
        omega (arith, here, weighs, all)
    leave_zero s e (inr h) = get_or_past plan.leave s 0 (omega (arith, h, proved.leaves))

    enter_zero : (s : ℕ) → ((i : ℕ) → next_of plan.next i ≢ Some s) → (s < length plan.next) ⊎ (length plan.next ≤ s)
        → price plan.enter s ≡ 0
    enter_zero s away (inl h) =
        let n = length plan.next in
        let all = (spent network departs plan clock within proved).1 in
        let same = sum_below-same (λ i. beyond (off (price plan.enter) s) (next_of plan.next i))
        (λ i. beyond (price plan.enter) (next_of plan.next i)) n
        (λ i _. beyond-off (price plan.enter) s (next_of plan.next i) (away i)) in
        let ends = beyond-le (next_of plan.next) n n (off (price plan.enter) s)
        (λ i j _ e. (links-within network departs plan.next clock within proved.links i j e).1)
        (λ h i j p q e f. proved.links.once h i j e f) in
        omega (arith, all, same, ends, sum_below-off (price plan.enter) n s h)
    enter_zero s away (inr h) = get_or_past plan.enter s 0 (omega (arith, h, proved.enters))
