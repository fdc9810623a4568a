-- A loose plan is what a search over its pairs may begin with, and what it leaves is loose again.
use Rattle.std.proofs.Common.{◌≡◌, ◌≢◌, ℕ, ◌+◌, ◌-◌, ◌≤◌, Bool, true, false, length, Option, None, Some, refl, sym, ap, subst, ◌∙◌, ⊎_elim}
use Rattle.std.proofs.Common.{inl, inr, ◌⊎◌, arith}
use Rattle.std.specs.Prelude.{IsSome, IfSome, unwrap_or}
use Rattle.std.specs.Option.{option_map}
use Rattle.std.proofs.lemmas.Bool.{both_ways, cases_eq}
use Rattle.std.proofs.lemmas.Option.{none-some, same_Some}
use Rattle.trip_model.specs.Links.{next_of, before_of}
use Rattle.trip_model.specs.Network.{Network, Fits, AreDepartures}
use Rattle.assignment_model.specs.Paths.{AreNextTrips, IsPath, IsLeftPath}
use Rattle.assignment_model.specs.Prices.{weight, Plan, price, weight_to, IsDay, IsLoose}
use Rattle.pair_search.specs.Assignment.{AreWeights, IsMatched, Covers, MayBegin}

-- weights but those of pairs that enter b
pub record IsWithout (w v : ℕ → ℕ → Option ℕ) (b : Option ℕ) : Type 0 where
  pub some : (i j k : ℕ) → w i j ≡ Some k → v i j ≡ Some k
  pub all : (i j k : ℕ) → b ≢ Some j → v i j ≡ Some k → w i j ≡ Some k
  pub none : (i j : ℕ) → b ≡ Some j → w i j ≡ None

-- a pair that has a weight fits
pub weight-fits : (network : Network) (i j k : ℕ) → weight network i j ≡ Some k → Fits network i j
weight-fits network i j k e = by (network.empty i j) refl e
  where
    by : (minutes : Option ℕ) → network.empty i j ≡ minutes
        → option_map (λ m. 67108864 + network.home i + network.out j - m) minutes ≡ Some k → Fits network i j
    by None is e = absurd (none-some k e)
    by (Some m) is e = subst IsSome (sym is) refl

-- and one that fits has a weight
pub fits-weight : (network : Network) (i j : ℕ) → Fits network i j → weight network i j ≡ Some (weight_to network i (Some j))
fits-weight network i j fits = by (network.empty i j) refl
  where
    by : (minutes : Option ℕ) → network.empty i j ≡ minutes → weight network i j ≡ Some (weight_to network i (Some j))
    by None is = let none = subst IsSome is fits in cc none
    by (Some m) is =
        let found : weight network i j ≡ Some (67108864 + network.home i + network.out j - m) =
        ap (option_map (λ m. 67108864 + network.home i + network.out j - m)) is in
        found ∙ ap Some (sym (ap (λ w. unwrap_or w 0) found))

weight-most : (network : Network) (slots : ℕ) → IsDay network slots → (i j k : ℕ) → weight network i j ≡ Some k → k ≤ 4503599627370496
weight-most network slots day i j k e = by (network.empty i j) e
  where
    by : (minutes : Option ℕ) → option_map (λ m. 67108864 + network.home i + network.out j - m) minutes ≡ Some k → k ≤ 4503599627370496
    by None e = absurd (none-some k e)
    by (Some m) e = let same = same_Some (67108864 + network.home i + network.out j - m) k e in omega (arith, same, day.home i, day.out j)

-- the weights of a network of one day
pub AreWeights-network : (network : Network) (slots : ℕ) (departs : ℕ → ℕ) → IsDay network slots → AreDepartures network departs
    → AreWeights (weight network) slots
AreWeights-network network slots departs day clock = record {
  within = λ i j k e. let runs = clock.runs i j (weight-fits network i j k e) in (day.within i runs.0, day.within j runs.1);
  most = weight-most network slots day;
}

-- and seen from the entering side
pub AreWeights-turned : (w : ℕ → ℕ → Option ℕ) (n : ℕ) → AreWeights w n → AreWeights (λ i j. w j i) n
AreWeights-turned w n weights = record {
  within = λ i j k e. let both = weights.within j i k e in (both.1, both.0);
  most = λ i j k e. weights.most j i k e;
}

pub AreWeights-without : (w v : ℕ → ℕ → Option ℕ) (b : Option ℕ) (n : ℕ) → IsWithout w v b → AreWeights v n → AreWeights w n
AreWeights-without w v b n without weights = record {
  within = λ i j k e. weights.within i j k (without.some i j k e);
  most = λ i j k e. weights.most i j k (without.some i j k e);
}

-- what is said of a slot, where it is one
said : (P : ℕ → Type 0) (b : Option ℕ) (s : ℕ) → IfSome b P → b ≡ Some s → P s
said P b s h e = subst (λ o. IfSome o P) e h

-- one that is left out is this slot or not
pub is-at : (o : Option ℕ) (j : ℕ) → (o ≡ Some j) ⊎ (o ≢ Some j)
is-at None j = inr (λ e. none-some j e)
is-at (Some s) j = ⊎_elim (λ (e : s ≡ j). inl (ap Some e)) (λ (ne : s ≡ j → ⊥). inr (λ e. ne (same_Some s j e))) (cases_eq s j)

-- a search from a leaving side may begin
pub MayBegin-left : (network : Network) (slots : ℕ) (plan : Plan) (a : ℕ) (b : Option ℕ) (w : ℕ → ℕ → Option ℕ) → IsDay network slots
    → IsWithout w (weight network) b
    → IsLoose network plan (Some a) b → MayBegin w slots (λ _. false) a b plan.next plan.leave plan.enter
MayBegin-left network slots plan a b w day without loose = record {
  start = day.within a loose.before.0;
  inside = refl;
  matched = record {
    once = loose.links.once;
    tight = λ i j e.
        without.all i j (price plan.leave i + price plan.enter j)
        (λ at-b. (said (λ s. (network.live s ≡ true) × ((h : ℕ) → next_of plan.next h ≢ Some s)) b j loose.after at-b).1 i e)
        (fits-weight network i j (loose.links.fits i j e) ∙ ap Some (sym (loose.tight i j e)));
    left = λ i e. absurd (both_ways true (sym e) refl);
    first = λ i e. ap (next_of plan.next) (sym (same_Some a i e)) ∙ loose.before.1;
    last = without.none;
    leave_zero = loose.leave_zero;
    enter_zero = loose.enter_zero;
  };
  covers = λ i j k _ other e.
      ⊎_elim
      (λ (at-b : b ≡ Some j). absurd (none-some k (sym (without.none i j at-b) ∙ e)))
      (λ (away : b ≢ Some j). loose.covers i j k other away (without.some i j k e))
      (is-at b j);
}

-- what a search leaves is loose, where each trip that runs is added
pub IsLoose-matched : (network : Network) (departs : ℕ → ℕ) (plan : Plan) (out : ℕ → Bool) (b : Option ℕ) (w : ℕ → ℕ → Option ℕ)
    → AreDepartures network departs → IsWithout w (weight network) b
    → ((i : ℕ) → network.live i ≡ true → out i ≡ false) → ((s : ℕ) → b ≡ Some s → network.live s ≡ true)
    → length plan.leave ≡ length plan.next → length plan.enter ≡ length plan.next
    → IsMatched w out None b plan.next plan.leave plan.enter → Covers w out None plan.leave plan.enter → IsLoose network plan None b
IsLoose-matched network departs plan out b w clock without added lives leaves enters matched covers = record {
  leaves = leaves;
  enters = enters;
  links = record { fits = fits; once = matched.once };
  dead = λ s dead. (
    no-next s dead (next_of plan.next s) refl,
    matched.leave_zero s (λ e. none-some s e) (no-next s dead (next_of plan.next s) refl),
    matched.enter_zero s (λ at-b. both_ways (network.live s) dead (lives s at-b))
        (λ i e. both_ways (network.live s) dead (clock.runs i s (fits i s e)).1),
  );
  before = tt;
  after = after b refl;
  covers = λ i j k _ away e. covers i j k (added i (clock.runs i j (weight-fits network i j k e)).0) (λ e. none-some i e)
      (without.all i j k away e);
  tight = λ i j e. sym (ap (λ o. unwrap_or o 0) (weighs i j e));
  leave_zero = λ s _ none. matched.leave_zero s (λ e. none-some s e) none;
  enter_zero = matched.enter_zero;
}
  where
    weighs : (i j : ℕ) → next_of plan.next i ≡ Some j → weight network i j ≡ Some (price plan.leave i + price plan.enter j)
    weighs i j e = without.some i j (price plan.leave i + price plan.enter j) (matched.tight i j e)

    fits : (i j : ℕ) → next_of plan.next i ≡ Some j → Fits network i j
    fits i j e = weight-fits network i j (price plan.leave i + price plan.enter j) (weighs i j e)

    no-next : (s : ℕ) → network.live s ≡ false → (next : Option ℕ) → next_of plan.next s ≡ next → next_of plan.next s ≡ None
    no-next s dead None e = e
    no-next s dead (Some j) e = absurd (both_ways (network.live s) dead (clock.runs s j (fits s j e)).0)

    after : (o : Option ℕ) → b ≡ o → IfSome o (λ s. (network.live s ≡ true) × ((i : ℕ) → next_of plan.next i ≢ Some s))
    after None e = tt
    after (Some s) e = (
      lives s e,
      λ i linked. none-some (price plan.leave i + price plan.enter s)
          (sym (without.none i s e) ∙ matched.tight i s linked),
    )

-- b of a loose plan runs
pub lives-after : (network : Network) (plan : Plan) (a b : Option ℕ) → IsLoose network plan a b → (s : ℕ) → b ≡ Some s
    → network.live s ≡ true
lives-after network plan a b loose s e =
    (said (λ s. (network.live s ≡ true) × ((h : ℕ) → next_of plan.next h ≢ Some s)) b s loose.after e).0

-- links of a loose plan are next trips
pub AreNextTrips-loose : (network : Network) (slots : ℕ) (departs : ℕ → ℕ) (plan : Plan) (a b : Option ℕ) → IsDay network slots
    → AreDepartures network departs → length plan.next ≡ slots
    → IsLoose network plan a b → AreNextTrips plan.next
AreNextTrips-loose network slots departs plan a b day clock len loose = record {
  within = λ i j e. omega (arith, day.within j (clock.runs i j (loose.links.fits i j e)).1, len);
  once = loose.links.once;
}

-- the path of a search from a leaving side
pub IsLeftPath-loose : (network : Network) (slots : ℕ) (departs : ℕ → ℕ) (old new : Plan) (a : ℕ) (b b' : Option ℕ) → IsDay network slots
    → AreDepartures network departs → length old.next ≡ slots
    → length new.next ≡ length old.next → IsLoose network old (Some a) b → IsLoose network new None b'
    → IsPath (next_of old.next) (before_of old.next) (next_of new.next) a
    → IsLeftPath old.next new.next a
IsLeftPath-loose network slots departs old new a b b' day clock len same was is path = record {
  lists = record {
    before = AreNextTrips-loose network slots departs old (Some a) b day clock len was;
    after = AreNextTrips-loose network slots departs new None b' day clock (same ∙ len) is;
    slots = same;
  };
  slot = omega (arith, day.within a was.before.0, len);
  path = path;
}
