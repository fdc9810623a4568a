-- A trip is added to a certified plan: that is loose for the pairs with it, from its slot and to its slot.
use Rattle.std.proofs.Common.{◌≡◌, ◌≢◌, ℕ, ◌-◌, ◌<◌, ◌≤◌, ◌==◌, Bool, true, false, cond, List, [], ◌∷◌, ◌++◌, length, get_or, take}
use Rattle.std.proofs.Common.{replicate, Option, None, Some, refl, sym, ap, subst, ◌∙◌, ⊎_elim, arith}
use Rattle.std.specs.Prelude.{IsSome, unwrap_or}
use Rattle.std.proofs.lemmas.Bool.{both_ways, cases_lt, eqb-true}
use Rattle.std.proofs.lemmas.List.{append-nil, get_or_append_left, get_or-append_right, get_or-replicate, get_or_past, length-append}
use Rattle.std.proofs.lemmas.List.{length-replicate, take_all}
use Rattle.std.proofs.lemmas.Option.{none-some}
use Rattle.trip_model.specs.Links.{next_of, before_of}
use Rattle.trip_model.specs.Network.{Network, AreDepartures}
use Rattle.trip_model.specs.Order.{minute_left}
use Rattle.trip_model.specs.Plain.{move_at, AreMoves}
use Rattle.trip_model.proofs.BeforeLemmas.{next-before}
use Rattle.trip_model.proofs.Counting.{runs-within}
use Rattle.assignment_model.specs.Paths.{IsLeftPath, IsRightPath, IsAlone, with_slot, IsAdded}
use Rattle.assignment_model.specs.Prices.{Plan, price, weight_to, IsLoose}
use Rattle.deadhead_matrix.proofs.Days.{AreDepartures-ruled}
use Rattle.assignment_model.proofs.Looseness.{IsLoose-certified}
use Rattle.pair_graph.specs.Pairs.{PairsView, pairs_network}
use Rattle.pair_graph.proofs.PairsLemmas.{AreMoves-without}
use Rattle.price_assign.specs.Plans.{resized, with_slots}
use Rattle.price_repair.specs.Without.{pairs_without, IsCertifiedWithout}
use Rattle.price_repair.proofs.WithoutLemmas.{LacksTrip, LacksTrip-without, fits-other}

-- a list to which nothing but what stands past its end was added says the same of each slot
get_or-resized : {X : Type 0} → (xs : List X) (n i : ℕ) (x : X) → length xs ≤ n → get_or (resized xs n x) i x ≡ get_or xs i x
get_or-resized xs n i x h =
    ap (λ front. get_or (front ++ replicate (n - length xs) x) i x) (take_all n xs h)
    ∙ ⊎_elim
    (λ (l : i < length xs). get_or_append_left xs (replicate (n - length xs) x) x i l)
    (λ (l : length xs ≤ i). get_or-append_right xs (replicate (n - length xs) x) (length xs) i x refl l
    ∙ filled (n - length xs) (i - length xs) ∙ sym (get_or_past xs i x l))
    (cases_lt i (length xs))
  where
    filled : (k m : ℕ) → get_or (replicate k x) m x ≡ x
    filled k m = ⊎_elim
        (λ (l : m < k). get_or-replicate k m x x l)
        (λ (l : k ≤ m). get_or_past (replicate k x) m x (omega (arith, l, length-replicate k x)))
        (cases_lt m k)

length-resized : {X : Type 0} → (xs : List X) (n : ℕ) (x : X) → length xs ≤ n → length (resized xs n x) ≡ n
length-resized xs n x h =
    let rest = replicate (n - length xs) x in
    omega (arith, h, length-append (take n xs) rest, ap length (take_all n xs h), length-replicate (n - length xs) x)

-- links that are cut or extended to so many slots are those with a slot more, where that is as many
resized-with_slot : (links : List (Option ℕ)) (s n : ℕ) → length (with_slot links s) ≡ n → resized links n None ≡ with_slot links s
resized-with_slot links s n = by (length links == s)
  where
    by : (more : Bool) → length (cond more (links ++ None ∷ []) links) ≡ n → resized links n None ≡ cond more (links ++ None ∷ []) links
    by true e =
        let one : n - length links ≡ 1 = omega (arith, e, length-append links (None ∷ [])) in
        ap (λ front. front ++ replicate (n - length links) None) (take_all n links (omega arith)) ∙ ap (λ k. links ++ replicate k None) one
    by false e =
        let none : n - length links ≡ 0 = omega (arith, e) in
        ap (λ front. front ++ replicate (n - length links) None) (take_all n links (omega arith))
        ∙ ap (λ k. links ++ replicate k None) none ∙ append-nil links

-- a plan that says the same of each slot, and may have more of them
pub record IsExtended (old new : Plan) (n : ℕ) : Type 0 where
  pub slots : length new.next ≡ n
  pub leaves : length new.leave ≡ n
  pub enters : length new.enter ≡ n
  pub next : (i : ℕ) → next_of new.next i ≡ next_of old.next i
  pub leave : (i : ℕ) → price new.leave i ≡ price old.leave i
  pub enter : (i : ℕ) → price new.enter i ≡ price old.enter i

pub IsExtended-slots : (plan : Plan) (n : ℕ) → length plan.next ≤ n → length plan.leave ≡ length plan.next
    → length plan.enter ≡ length plan.next → IsExtended plan (with_slots plan n) n
IsExtended-slots plan n few leaves enters =
    let few_leave : length plan.leave ≤ n = omega (arith, few, leaves) in
    let few_enter : length plan.enter ≤ n = omega (arith, few, enters) in
    record {
      slots = length-resized plan.next n None few;
      leaves = length-resized plan.leave n 0 few_leave;
      enters = length-resized plan.enter n 0 few_enter;
      next = λ i. get_or-resized plan.next n i None few;
      leave = λ i. get_or-resized plan.leave n i 0 few_leave;
      enter = λ i. get_or-resized plan.enter n i 0 few_enter;
    }

pub IsLoose-more : (whole rest : Network) (departs after : ℕ → ℕ) (old new : Plan) (s n : ℕ) → AreDepartures whole departs
    → AreDepartures rest after → LacksTrip whole rest s → whole.live s ≡ true
    → IsLoose rest old None None → IsExtended old new n → IsLoose whole new (Some s) (Some s)
IsLoose-more whole rest departs after old new s n clock clock' lacks live loose same = record {
  leaves = same.leaves ∙ sym same.slots;
  enters = same.enters ∙ sym same.slots;
  links = record {
    fits = λ i j e. (let other = links_other i j e in subst IsSome (lacks.empty i j other.0 other.1) (loose.links.fits i j (was i j e)));
    once = λ h i j e f. loose.links.once h i j (was h j e) (was i j f);
  };
  dead = λ t dead.
      (let other : t ≢ s = λ here. both_ways (whole.live s) (sym (ap whole.live here) ∙ dead) live in
      let none = loose.dead t (lacks.live t other ∙ dead) in
      (same.next t ∙ none.0, same.leave t ∙ none.1, same.enter t ∙ none.2));
  before = (live, same.next s ∙ (loose.dead s lacks.dead).0);
  after = (live, λ i e. (links_other i s e).1 refl);
  covers = λ i j k from to e.
      (let out : i ≢ s = λ here. from (ap Some (sym here)) in
      let into : j ≢ s = λ here. to (ap Some (sym here)) in
      omega (arith, same.leave i, same.enter j, loose.covers i j k (none-some i) (none-some j) (lacks.weights i j out into ∙ e)));
  tight = λ i j e.
      (let other = links_other i j e in
      let weighs : weight_to rest i (Some j) ≡ weight_to whole i (Some j) = ap (λ w. unwrap_or w 0) (lacks.weights i j other.0 other.1) in
      omega (arith, same.leave i, same.enter j, weighs, loose.tight i j (was i j e)));
  leave_zero = λ t _ none. same.leave t ∙ loose.leave_zero t (none-some t) (sym (same.next t) ∙ none);
  enter_zero = λ t _ first. same.enter t ∙ loose.enter_zero t (none-some t) (λ i e. first i (same.next i ∙ e));
}
  where
    was : (i j : ℕ) → next_of new.next i ≡ Some j → next_of old.next i ≡ Some j
    was i j e = sym (same.next i) ∙ e

    links_other : (i j : ℕ) → next_of new.next i ≡ Some j → (i ≢ s) × (j ≢ s)
    links_other i j e = fits-other whole rest after s i j lacks clock' (loose.links.fits i j (was i j e))

-- what the pairs without a trip are to those with it
rest-clock : (pairs : PairsView) (s : ℕ) → AreMoves (length pairs.matrix.walks) pairs.moves → (pairs_network pairs).live s ≡ true
    → AreDepartures (pairs_network (pairs_without pairs s)) (λ t. minute_left (move_at (pairs_without pairs s).moves t))
rest-clock pairs s valid live =
    AreDepartures-ruled (length pairs.matrix.walks) pairs.names (pairs_without pairs s).moves pairs.matrix
    (AreMoves-without (length pairs.matrix.walks) pairs.moves (Some s) valid (runs-within pairs.moves s live))

-- a slot more is no slot less
length-with_slot-le : (links : List (Option ℕ)) (s : ℕ) → length links ≤ length (with_slot links s)
length-with_slot-le links s =
    elim (length links == s) as (λ more. length links ≤ length (cond more (links ++ None ∷ []) links))
    [ true ↦ omega (arith, length-append links (None ∷ [])) | false ↦ omega arith ]

-- each slot but that one was there
slots-before : (links : List (Option ℕ)) (s t : ℕ) → t ≢ s → t < length (with_slot links s) → t < length links
slots-before links s t other = by (length links == s) refl
  where
    by : (more : Bool) → (length links == s) ≡ more → t < length (cond more (links ++ None ∷ []) links) → t < length links
    by true e h = let last : length links ≡ s = eqb-true (length links) s e in
        omega (arith, h, last, other, length-append links (None ∷ []))
    by false e h = h

-- the plan without a trip is, once its slot is there, loose with it
pub IsLoose-added : (pairs : PairsView) (departs : ℕ → ℕ) (s : ℕ) (old new : Plan) → AreDepartures (pairs_network pairs) departs
    → AreMoves (length pairs.matrix.walks) pairs.moves
    → length (with_slot old.next s) ≡ length pairs.moves → IsCertifiedWithout pairs s old → new ≡ with_slots old (length pairs.moves)
    → IsLoose (pairs_network pairs) new (Some s) (Some s)
IsLoose-added pairs departs s old new clock valid slots w is =
    let whole = pairs_network pairs in
    let rest = pairs_network (pairs_without pairs s) in
    let lacks = LacksTrip-without pairs s in
    let after : ℕ → ℕ = λ t. minute_left (move_at (pairs_without pairs s).moves t) in
    let clock' : AreDepartures rest after = rest-clock pairs s valid w.runs in
    let within : (t : ℕ) → rest.live t ≡ true → t < length old.next = λ t runs.
    (let other : t ≢ s = λ here. both_ways (rest.live s) lacks.dead (sym (ap rest.live here) ∙ runs) in
    let inside = runs-within pairs.moves t (sym (lacks.live t other) ∙ runs) in
    slots-before old.next s t other (omega (arith, inside, slots))) in
    let extended = IsExtended-slots old (length pairs.moves) (omega (arith, slots, length-with_slot-le old.next s)) w.certified.leaves
    w.certified.enters in
    subst (λ (p : Plan). IsLoose whole p (Some s) (Some s)) (sym is)
    (IsLoose-more whole rest departs after old (with_slots old (length pairs.moves)) s (length pairs.moves) clock clock' lacks w.runs
    (IsLoose-certified rest after old clock' within w.certified) extended)

-- the links then are those with the slot
pub next-added : (pairs : PairsView) (s : ℕ) (old new : Plan) → length (with_slot old.next s) ≡ length pairs.moves
    → new ≡ with_slots old (length pairs.moves) → new.next ≡ with_slot old.next s
next-added pairs s old new slots is = ap (λ (p : Plan). p.next) is ∙ resized-with_slot old.next s (length pairs.moves) slots

-- the two searches after that
pub IsAdded-searched : (network : Network) (old first mid new : Plan) (s : ℕ) → IsLoose network first (Some s) (Some s)
    → first.next ≡ with_slot old.next s
    → IsLeftPath first.next mid.next s → IsRightPath mid.next new.next s → IsAdded old.next new.next s
IsAdded-searched network old first mid new s loose is left right = record {
  alone = subst (λ links. IsAlone links s) is (loose.before.1, by (before_of first.next s) refl);
  mid = mid.next;
  left = subst (λ links. IsLeftPath links mid.next s) is left;
  right = right;
}
  where
    by : (before : Option ℕ) → before_of first.next s ≡ before → before_of first.next s ≡ None
    by None e = e
    by (Some i) e = absurd (loose.after.1 i (next-before first.next i s e))
