-- What is said of rows and columns is said of them by the places of the columns, and the other way round.
use Rattle.std.proofs.Common.{◌≡◌, ℕ, ◌+◌, ◌<◌, ◌≤◌, Bool, List, [], ◌∷◌, length, Option, None, Some, refl, sym, ap, subst, ◌∙◌, ⊎_elim}
use Rattle.std.proofs.Common.{arith}
use Rattle.std.specs.Prelude.{IsSome, IfSome}
use Rattle.std.specs.Option.{option_map}
use Rattle.std.proofs.lemmas.Bool.{cases_lt}
use Rattle.std.proofs.lemmas.List.{get_or_past}
use Rattle.std.proofs.lemmas.Option.{none-some, same_Some}
use Rattle.trip_model.specs.Links.{next_of, before_of, AreApart}
use Rattle.trip_model.proofs.BeforeLemmas.{next-before, before-next}
use Rattle.assignment_model.specs.Paths.{IsPassedOn, IsPath}
use Rattle.assignment_model.specs.Prices.{price}
use Rattle.pair_search.specs.Assignment.{AreWeights, IsMatched, Covers, MayBegin}
use Rattle.pair_search.specs.Order.{IsRenaming}
use Rattle.pair_search.specs.Renamed.{AreRenamed}

-- what is named anew was there
mapped : (f : ℕ → ℕ) (o : Option ℕ) (k : ℕ) → option_map f o ≡ Some k → (j : ℕ) × (o ≡ Some j) × (f j ≡ k)
mapped f None k e = absurd (none-some k e)
mapped f (Some j) k e = (j, refl, same_Some (f j) k e)

none-placed : (n : ℕ) (slot place : ℕ → ℕ) (next placed : List (Option ℕ)) (enter entering : List ℕ)
    → AreRenamed n slot place next placed enter entering
    → (i : ℕ) → next_of next i ≡ None → next_of placed i ≡ None
none-placed n slot place next placed enter entering r i none = by (next_of placed i) refl
  where
    by : (o : Option ℕ) → next_of placed i ≡ o → next_of placed i ≡ None
    by None e = e
    by (Some k) e = absurd (none-some (slot k) (sym none ∙ (r.linked i k e).1))

none-slotted : (n : ℕ) (slot place : ℕ → ℕ) (next placed : List (Option ℕ)) (enter entering : List ℕ)
    → AreRenamed n slot place next placed enter entering
    → (i : ℕ) → next_of placed i ≡ None → next_of next i ≡ None
none-slotted n slot place next placed enter entering r i none = by (next_of next i) refl
  where
    by : (o : Option ℕ) → next_of next i ≡ o → next_of next i ≡ None
    by None e = e
    by (Some j) e = absurd (none-some (place j) (sym none ∙ (r.told i j e).1))

-- a place whose slot is one of so many is one of them
slot-inside : (n : ℕ) (slot place : ℕ → ℕ) → IsRenaming n slot place → (k : ℕ) → slot k < n → k < n
slot-inside n slot place ρ k inside =
    ⊎_elim (λ (lt : k < n). lt) (λ (past : n ≤ k). absurd (omega (arith, ρ.no_slot k past, inside))) (cases_lt k n)

-- weights by places
pub AreWeights-placed : (w : ℕ → ℕ → Option ℕ) (n : ℕ) (slot place : ℕ → ℕ) → AreWeights w n → IsRenaming n slot place
    → AreWeights (λ i k. w i (slot k)) n
AreWeights-placed w n slot place weights ρ = record {
  within = λ i k v e. let both = weights.within i (slot k) v e in (both.0, slot-inside n slot place ρ k both.1);
  most = λ i k v e. weights.most i (slot k) v e;
}

-- a search by places may begin
pub MayBegin-placed : (w : ℕ → ℕ → Option ℕ) (n : ℕ) (slot place : ℕ → ℕ) (out : ℕ → Bool) (a : ℕ) (b : Option ℕ)
    (next placed : List (Option ℕ)) (leave enter entering : List ℕ)
    → AreWeights w n → IsRenaming n slot place → AreRenamed n slot place next placed enter entering → MayBegin w n out a b next leave enter
    → MayBegin (λ i k. w i (slot k)) n out a (option_map place b) placed leave entering
MayBegin-placed w n slot place out a b next placed leave enter entering weights ρ r begins = record {
  start = begins.start;
  inside = begins.inside;
  matched = record {
    once = λ h i k e f. begins.matched.once h i (slot k) (r.linked h k e).1 (r.linked i k f).1;
    tight = λ i k e.
        let l = r.linked i k e in
        begins.matched.tight i (slot k) l.1 ∙ ap (λ p. Some (price leave i + p)) (sym (r.prices k l.0));
    left = λ i e. none-placed n slot place next placed enter entering r i (begins.matched.left i e);
    first = λ i e. none-placed n slot place next placed enter entering r i (begins.matched.first i e);
    last = λ i k e. let was = mapped place b k e in no-weight i k was.0 was.1 was.2 (w i (slot k)) refl;
    leave_zero = λ i other none. begins.matched.leave_zero i other (none-slotted n slot place next placed enter entering r i none);
    enter_zero = λ k other none. ⊎_elim
        (λ (lt : k < n).
        r.prices k lt
        ∙ begins.matched.enter_zero (slot k) (λ e. other (ap (option_map place) e ∙ ap Some (ρ.back k lt)))
        (λ i linked. none i ((r.told i (slot k) linked).1 ∙ ap Some (ρ.back k lt))))
        (λ (past : n ≤ k). get_or_past entering k 0 (omega (arith, past, r.places)))
        (cases_lt k n);
  };
  covers = λ i k v inside other e.
      let lt = slot-inside n slot place ρ k (weights.within i (slot k) v e).1 in
      omega (arith, begins.covers i (slot k) v inside other e, r.prices k lt);
}
  where
    no-weight : (i k j : ℕ) → b ≡ Some j → place j ≡ k → (v : Option ℕ) → w i (slot k) ≡ v → w i (slot k) ≡ None
    no-weight i k j at-b at-k None e = e
    no-weight i k j at-b at-k (Some v) e =
        let inside = slot-inside n slot place ρ k (weights.within i (slot k) v e).1 in
        ⊎_elim
        (λ (lt : j < n).
        let same : slot k ≡ j = ap slot (sym at-k) ∙ ρ.there j lt in
        ap (w i) same ∙ begins.matched.last i j at-b)
        (λ (past : n ≤ j). absurd (omega (arith, ρ.no_place j past, at-k, inside)))
        (cases_lt j n)

-- links that are matched by places are matched
pub IsMatched-slotted : (w : ℕ → ℕ → Option ℕ) (n : ℕ) (slot place : ℕ → ℕ) (out : ℕ → Bool) (b : Option ℕ) (next placed : List (Option ℕ))
    (leave enter entering : List ℕ)
    → IsRenaming n slot place → AreRenamed n slot place next placed enter entering → ((i j : ℕ) → b ≡ Some j → w i j ≡ None)
    → IsMatched (λ i k. w i (slot k)) out None (option_map place b) placed leave entering → IsMatched w out None b next leave enter
IsMatched-slotted w n slot place out b next placed leave enter entering ρ r last matched = record {
  once = λ h i j e f. matched.once h i (place j) (r.told h j e).1 (r.told i j f).1;
  tight = λ i j e.
      let t = r.told i j e in
      ap (w i) (sym (ρ.there j t.0)) ∙ matched.tight i (place j) t.1 ∙ ap (λ p. Some (price leave i + p)) (enters j t.0);
  left = λ i e. none-slotted n slot place next placed enter entering r i (matched.left i e);
  first = λ i e. absurd (none-some i e);
  last = last;
  leave_zero = λ i other none. matched.leave_zero i other (none-placed n slot place next placed enter entering r i none);
  enter_zero = λ j other none. ⊎_elim
      (λ (lt : j < n).
      sym (enters j lt) ∙ matched.enter_zero (place j)
      (λ e. let was = mapped place b (place j) e in other (was.1 ∙ ap Some (same was.0 j lt was.2)))
      (λ i linked. none i ((r.linked i (place j) linked).1 ∙ ap Some (ρ.there j lt))))
      (λ (past : n ≤ j). get_or_past enter j 0 (omega (arith, past, r.slots)))
      (cases_lt j n);
}
  where
    enters : (j : ℕ) → j < n → price entering (place j) ≡ price enter j
    enters j lt = r.prices (place j) (ρ.place_within j lt) ∙ ap (price enter) (ρ.there j lt)

    same : (h j : ℕ) → j < n → place h ≡ place j → h ≡ j
    same h j lt e = ⊎_elim
        (λ (inside : h < n). sym (ρ.there h inside) ∙ ap slot e ∙ ρ.there j lt)
        (λ (past : n ≤ h). absurd (omega (arith, ρ.no_place h past, e, ρ.place_within j lt)))
        (cases_lt h n)

pub Covers-slotted : (w : ℕ → ℕ → Option ℕ) (n : ℕ) (slot place : ℕ → ℕ) (out : ℕ → Bool) (next placed : List (Option ℕ))
    (leave enter entering : List ℕ)
    → AreWeights w n → IsRenaming n slot place → AreRenamed n slot place next placed enter entering
    → Covers (λ i k. w i (slot k)) out None leave entering → Covers w out None leave enter
Covers-slotted w n slot place out next placed leave enter entering weights ρ r covers i j k inside other e =
    let lt = (weights.within i j k e).1 in
    let enters : price entering (place j) ≡ price enter j = r.prices (place j) (ρ.place_within j lt) ∙ ap (price enter) (ρ.there j lt) in
    omega (arith, covers i (place j) k inside other (ap (w i) (ρ.there j lt) ∙ e), enters)

-- and a path by places is a path
pub IsPath-slotted : (n : ℕ) (slot place : ℕ → ℕ) (next placed next' placed' : List (Option ℕ)) (enter entering enter' entering' : List ℕ)
    (a : ℕ)
    → AreRenamed n slot place next placed enter entering → AreRenamed n slot place next' placed' enter' entering' → AreApart placed
    → IsPath (next_of placed) (before_of placed) (next_of placed') a → IsPath (next_of next) (before_of next) (next_of next') a
IsPath-slotted n slot place next placed next' placed' enter entering enter' entering' a r r' apart path = record {
  path = path.path;
  distinct = path.distinct;
  passed = on a path.path path.passed;
  others = λ s away. same s s (path.others s away);
}
  where
    same : (s t : ℕ) → next_of placed' s ≡ next_of placed t → next_of next' s ≡ next_of next t
    same s t e = by (next_of placed t) refl
      where
        by : (o : Option ℕ) → next_of placed t ≡ o → next_of next' s ≡ next_of next t
        by None q = none-slotted n slot place next' placed' enter' entering' r' s (e ∙ q)
            ∙ sym (none-slotted n slot place next placed enter entering r t q)
        by (Some k) q = (r'.linked s k (e ∙ q)).1 ∙ sym (r.linked t k q).1

    some : (s : ℕ) → IsSome (next_of placed s) → IsSome (next_of next s)
    some s h = by (next_of placed s) refl
      where
        by : (o : Option ℕ) → next_of placed s ≡ o → IsSome (next_of next s)
        by None q = let none = subst IsSome q h in cc none
        by (Some k) q = subst IsSome (sym (r.linked s k q).1) refl

    free : (j : ℕ) → before_of placed (place j) ≡ None → before_of next j ≡ None
    free j e = by (before_of next j) refl
      where
        by : (o : Option ℕ) → before_of next j ≡ o → before_of next j ≡ None
        by None q = q
        by (Some i) q = absurd (none-some i (sym e ∙ before-next placed i (place j) apart (r.told i j (next-before next i j q)).1))

    last : (s : ℕ) → IfSome (next_of placed' s) (λ t. before_of placed t ≡ None) → IfSome (next_of next' s) (λ t. before_of next t ≡ None)
    last s h = by (next_of next' s) refl
      where
        by : (o : Option ℕ) → next_of next' s ≡ o → IfSome (next_of next' s) (λ t. before_of next t ≡ None)
        by None q = subst (λ o. IfSome o (λ t. before_of next t ≡ None)) (sym q) tt
        by (Some j) q =
            subst (λ o. IfSome o (λ t. before_of next t ≡ None)) (sym q)
            (free j (subst (λ o. IfSome o (λ t. before_of placed t ≡ None)) (r'.told s j q).1 h))

    on : (s : ℕ) (path : List ℕ) → IsPassedOn (next_of placed) (before_of placed) (next_of placed') s path
        → IsPassedOn (next_of next) (before_of next) (next_of next') s path
    on s [] h = last s h
    on s (t ∷ path) h = (same s t h.0, some t h.1, on t path h.2)

-- links by places
pub AreRenamed-placed : (n : ℕ) (slot place : ℕ → ℕ) (next placed : List (Option ℕ)) (enter entering : List ℕ) → IsRenaming n slot place
    → ((i j : ℕ) → next_of next i ≡ Some j → j < n)
    → ((i : ℕ) → next_of placed i ≡ option_map place (next_of next i)) → ((k : ℕ) → k < n → price entering k ≡ price enter (slot k))
    → length enter ≡ n → length entering ≡ n
    → AreRenamed n slot place next placed enter entering
AreRenamed-placed n slot place next placed enter entering ρ within links prices len len' = record {
  told = λ i j e. (within i j e, links i ∙ ap (option_map place) e);
  linked = λ i k e.
      let was = mapped place (next_of next i) k (sym (links i) ∙ e) in
      let inside = within i was.0 was.1 in
      (subst (λ x. x < n) was.2 (ρ.place_within was.0 inside), was.1 ∙ ap Some (sym (ap slot (sym was.2) ∙ ρ.there was.0 inside)));
  prices = prices;
  slots = len;
  places = len';
}

-- links by slots
pub AreRenamed-slotted : (n : ℕ) (slot place : ℕ → ℕ) (next placed : List (Option ℕ)) (enter entering : List ℕ) → IsRenaming n slot place
    → ((i k : ℕ) → next_of placed i ≡ Some k → k < n)
    → ((i : ℕ) → next_of next i ≡ option_map slot (next_of placed i)) → ((j : ℕ) → j < n → price enter j ≡ price entering (place j))
    → length enter ≡ n → length entering ≡ n
    → AreRenamed n slot place next placed enter entering
AreRenamed-slotted n slot place next placed enter entering ρ within links prices len len' = record {
  told = λ i j e.
      let was = mapped slot (next_of placed i) j (sym (links i) ∙ e) in
      let inside = within i was.0 was.1 in
      (subst (λ x. x < n) was.2 (ρ.slot_within was.0 inside), was.1 ∙ ap Some (sym (ap place (sym was.2) ∙ ρ.back was.0 inside)));
  linked = λ i k e. (within i k e, links i ∙ ap (option_map slot) e);
  prices = λ k lt. sym (prices (slot k) (ρ.slot_within k lt) ∙ ap (price entering) (ρ.back k lt));
  slots = len;
  places = len';
}

-- a column that a row is linked to by its place is one of so many
pub within-placed : (w : ℕ → ℕ → Option ℕ) (n : ℕ) (slot place : ℕ → ℕ) (out : ℕ → Bool) (a b : Option ℕ) (placed : List (Option ℕ))
    (leave entering : List ℕ) → AreWeights w n → IsRenaming n slot place
    → IsMatched (λ i k. w i (slot k)) out a b placed leave entering → (i k : ℕ) → next_of placed i ≡ Some k → k < n
within-placed w n slot place out a b placed leave entering weights ρ matched i k e =
    slot-inside n slot place ρ k (weights.within i (slot k) (price leave i + price entering k) (matched.tight i k e)).1

-- links that are matched by places, by slots
pub AreRenamed-matched : (w : ℕ → ℕ → Option ℕ) (n : ℕ) (slot place : ℕ → ℕ) (out : ℕ → Bool) (a b : Option ℕ)
    (next placed : List (Option ℕ)) (leave enter entering : List ℕ) → AreWeights w n
    → IsRenaming n slot place → IsMatched (λ i k. w i (slot k)) out a b placed leave entering
    → ((i : ℕ) → next_of next i ≡ option_map slot (next_of placed i))
    → ((j : ℕ) → j < n → price enter j ≡ price entering (place j)) → length enter ≡ n → length entering ≡ n
    → AreRenamed n slot place next placed enter entering
AreRenamed-matched w n slot place out a b next placed leave enter entering weights ρ matched links prices len len' =
    AreRenamed-slotted n slot place next placed enter entering ρ
    (within-placed w n slot place out a b placed leave entering weights ρ matched) links prices len len'
