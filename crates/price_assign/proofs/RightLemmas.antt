-- From an entering side a search goes over the inverse of a loose plan's links.
use Rattle.std.proofs.Common.{◌≡◌, ◌≢◌, ℕ, ◌+◌, true, false, List, length, Option, None, Some, refl, sym, ap, subst, ◌∙◌, ⊎_elim, arith}
use Rattle.std.specs.Prelude.{IfSome, unwrap_or}
use Rattle.std.proofs.lemmas.Bool.{both_ways}
use Rattle.std.proofs.lemmas.Option.{none-some, same_Some}
use Rattle.trip_model.specs.Links.{next_of, before_of, AreApart}
use Rattle.trip_model.specs.Network.{Network, Fits, AreDepartures}
use Rattle.trip_model.proofs.BeforeLemmas.{next-within}
use Rattle.assignment_model.specs.Paths.{IsPath, IsRightPath}
use Rattle.assignment_model.specs.Prices.{weight, Plan, price, IsDay, IsLoose}
use Rattle.pair_search.specs.Inverse.{IsInverse}
use Rattle.pair_search.specs.Turned.{MayBeginTurned, IsFoundTurned}
use Rattle.pair_search.proofs.InverseLemmas.{inverse-before}
use Rattle.pair_search.proofs.LooseLemmas.{IsWithout, fits-weight, weight-fits, is-at, AreNextTrips-loose}

-- the inverse of an inverse
inverse-swap : (next before : List (Option ℕ)) → IsInverse (length next) next before → IsInverse (length before) before next
inverse-swap next before so = record {
  told = λ i j _ e. (so.linked j i e).1;
  linked = λ i j e. let told = so.told j i (next-within next j i e) e in (next-within before i j told, told);
}

inverse-apart : (next before : List (Option ℕ)) → IsInverse (length next) next before → AreApart before
inverse-apart next before so h i j e f = same_Some h i (sym (so.linked j h e).1 ∙ (so.linked j i f).1)

commuted : (w : ℕ → ℕ → Option ℕ) (i j x y : ℕ) → w i j ≡ Some (x + y) → w i j ≡ Some (y + x)
commuted w i j x y e = let sum : x + y ≡ y + x = omega arith in e ∙ ap Some sum

-- a search from an entering side may begin
pub MayBegin-right : (network : Network) (slots : ℕ) (plan : Plan) (a : Option ℕ) (b : ℕ) (w : ℕ → ℕ → Option ℕ) → IsDay network slots
    → IsWithout w (λ i j. weight network j i) a
    → IsLoose network plan a (Some b) → MayBeginTurned w slots b a plan.next plan.leave plan.enter
MayBegin-right network slots plan a b w day without loose was inverse = record {
  start = day.within b loose.after.0;
  inside = refl;
  matched = record {
    once = inverse-apart plan.next was inverse;
    tight = λ i j e.
        let linked = (inverse.linked j i e).1 in
        without.all i j (price plan.enter i + price plan.leave j) (λ at-a. none-some i (sym (before j at-a) ∙ linked))
        (commuted (λ i j. weight network j i) i j (price plan.leave j) (price plan.enter i)
        (fits-weight network j i (loose.links.fits j i linked) ∙ ap Some (sym (loose.tight j i linked))));
    left = λ i e. absurd (both_ways true (sym e) refl);
    first = λ i e. first i (next_of was i) refl (same_Some b i e);
    last = without.none;
    leave_zero = λ i other none. loose.enter_zero i other
        (λ h linked. none-some h (sym none ∙ inverse.told h i (next-within plan.next h i linked) linked));
    enter_zero = λ j other none. loose.leave_zero j other (next-none j none (next_of plan.next j) refl);
  };
  covers = λ i j k _ other e. ⊎_elim
      (λ (at-a : a ≡ Some j). absurd (none-some k (sym (without.none i j at-a) ∙ e)))
      (λ (away : a ≢ Some j). omega (arith, loose.covers j i k away other (without.some i j k e)))
      (is-at a j);
}
  where
    before : (j : ℕ) → a ≡ Some j → next_of plan.next j ≡ None
    before j e = (subst (λ o. IfSome o (λ s. (network.live s ≡ true) × (next_of plan.next s ≡ None))) e loose.before).1

    first : (i : ℕ) (found : Option ℕ) → next_of was i ≡ found → b ≡ i → next_of was i ≡ None
    first i None e _ = e
    first i (Some h) e same = absurd (loose.after.1 h ((inverse.linked h i e).1 ∙ ap Some (sym same)))

    next-none : (j : ℕ) → ((i : ℕ) → next_of was i ≢ Some j) → (next : Option ℕ) → next_of plan.next j ≡ next → next_of plan.next j ≡ None
    next-none j none None e = e
    next-none j none (Some i) e = absurd (none i (inverse.told j i (next-within plan.next j i e) e))

-- and what it leaves is loose without it
pub IsLoose-right : (network : Network) (departs : ℕ → ℕ) (plan new : Plan) (a : Option ℕ) (b : ℕ) (w : ℕ → ℕ → Option ℕ)
    → AreDepartures network departs → IsWithout w (λ i j. weight network j i) a
    → IsLoose network plan a (Some b) → length new.leave ≡ length new.next → length new.enter ≡ length new.next
    → IsFoundTurned w b a plan.next new.next new.leave new.enter
    → IsLoose network new a None
IsLoose-right network departs plan new a b w clock without loose leaves enters found = record {
  leaves = leaves;
  enters = enters;
  links = record { fits = fits; once = inverse-apart found.now new.next found.inverse_now };
  dead = λ s dead. (
    no-next s dead (next_of new.next s) refl,
    leave-zero s (λ at-a. both_ways (network.live s) dead (before s at-a).0) (no-next s dead (next_of new.next s) refl),
    enter-zero s (λ i e. both_ways (network.live s) dead (clock.runs i s (fits i s e)).1),
  );
  before = is-before a refl;
  after = tt;
  covers = λ i j k away _ e. omega (arith, found.covers j i k refl (λ e. none-some j e) (without.all j i k away e));
  tight = λ i j e. sym (ap (λ o. unwrap_or o 0) (weighs i j e));
  leave_zero = leave-zero;
  enter_zero = λ s _ none. enter-zero s none;
}
  where
    told : (i j : ℕ) → next_of new.next i ≡ Some j → next_of found.now j ≡ Some i
    told i j e = (found.inverse_now.linked j i e).1

    weighs : (i j : ℕ) → next_of new.next i ≡ Some j → weight network i j ≡ Some (price new.leave i + price new.enter j)
    weighs i j e =
        commuted (weight network) i j (price new.enter j) (price new.leave i)
        (without.some j i (price new.enter j + price new.leave i) (found.matched.tight j i (told i j e)))

    fits : (i j : ℕ) → next_of new.next i ≡ Some j → Fits network i j
    fits i j e = weight-fits network i j (price new.leave i + price new.enter j) (weighs i j e)

    before : (s : ℕ) → a ≡ Some s → (network.live s ≡ true) × (next_of plan.next s ≡ None)
    before s e = subst (λ o. IfSome o (λ s. (network.live s ≡ true) × (next_of plan.next s ≡ None))) e loose.before

    no-next : (s : ℕ) → network.live s ≡ false → (next : Option ℕ) → next_of new.next s ≡ next → next_of new.next s ≡ None
    no-next s dead None e = e
    no-next s dead (Some j) e = absurd (both_ways (network.live s) dead (clock.runs s j (fits s j e)).0)

    leave-zero : (s : ℕ) → a ≢ Some s → next_of new.next s ≡ None → price new.leave s ≡ 0
    leave-zero s other none =
        found.matched.enter_zero s other (λ i e. none-some i (sym none ∙ found.inverse_now.told i s (next-within found.now i s e) e))

    enter-zero : (s : ℕ) → ((i : ℕ) → next_of new.next i ≢ Some s) → price new.enter s ≡ 0
    enter-zero s none = found.matched.leave_zero s (λ e. none-some s e) (by (next_of found.now s) refl)
      where
        by : (o : Option ℕ) → next_of found.now s ≡ o → next_of found.now s ≡ None
        by None e = e
        by (Some i) e = absurd (none i (found.inverse_now.told s i (next-within found.now s i e) e))

    is-before : (o : Option ℕ) → a ≡ o → IfSome o (λ s. (network.live s ≡ true) × (next_of new.next s ≡ None))
    is-before None e = tt
    is-before (Some s) e = ((before s e).0, by (next_of new.next s) refl)
      where
        by : (o : Option ℕ) → next_of new.next s ≡ o → next_of new.next s ≡ None
        by None none = none
        by (Some j) linked = absurd (none-some (price new.enter j + price new.leave s)
            (sym (without.none j s e) ∙ found.matched.tight j s (told s j linked)))

-- the path of such a search
pub IsRightPath-loose : (network : Network) (slots : ℕ) (departs : ℕ → ℕ) (old new : Plan) (a : Option ℕ) (b : ℕ) (w : ℕ → ℕ → Option ℕ)
    → IsDay network slots → AreDepartures network departs → length old.next ≡ slots
    → length new.next ≡ length old.next → IsLoose network old a (Some b) → IsLoose network new a None
    → IsFoundTurned w b a old.next new.next new.leave new.enter
    → IsRightPath old.next new.next b
IsRightPath-loose network slots departs old new a b w day clock len same was is found =
    let hads : next_of found.was ≡ before_of old.next = λ j s. inverse-before old.next found.was was.links.once found.inverse_was s j in
    let bys : before_of found.was ≡ next_of old.next =
    λ j s. sym (inverse-before found.was old.next (inverse-apart old.next found.was found.inverse_was)
    (inverse-swap old.next found.was found.inverse_was) s) j in
    let givens : next_of found.now ≡ before_of new.next =
    λ j s. inverse-before new.next found.now is.links.once (inverse-swap found.now new.next found.inverse_now) s j in
    record {
      lists = record {
        before = AreNextTrips-loose network slots departs old a (Some b) day clock len was;
        after = AreNextTrips-loose network slots departs new a None day clock (same ∙ len) is;
        slots = same;
      };
      slot = omega (arith, day.within b was.after.0, len);
      path = subst (λ f. IsPath f (next_of old.next) (before_of new.next) b) hads
          (subst (λ f. IsPath (next_of found.was) f (before_of new.next) b) bys
          (subst (λ f. IsPath (next_of found.was) (before_of found.was) f b) givens found.path));
    }
