-- A trip is cut out of a certified plan: it is loose for the pairs without it, from the trip before it and to its next one.
use Rattle.std.proofs.Common.{◌≡◌, ◌≢◌, ℕ, ◌<◌, true, false, List, length, set, Option, None, Some, refl, sym, ap, subst, ◌∙◌, ⊎_elim, inl}
use Rattle.std.proofs.Common.{inr, ◌⊎◌, arith}
use Rattle.std.specs.Prelude.{IsSome, IfSome, unwrap_or}
use Rattle.std.proofs.lemmas.Bool.{cases_eq}
use Rattle.std.proofs.lemmas.List.{get_or-set_other, length-set}
use Rattle.std.proofs.lemmas.Option.{none-some, same_Some}
use Rattle.trip_model.specs.Links.{next_of, before_of, AreApart}
use Rattle.trip_model.specs.Network.{Network, AreDepartures}
use Rattle.trip_model.specs.Order.{minute_left}
use Rattle.trip_model.specs.Plain.{move_at}
use Rattle.trip_model.proofs.BeforeLemmas.{next-before, before-next}
use Rattle.trip_model.proofs.Counting.{runs-within}
use Rattle.assignment_model.specs.Paths.{without_link, cut_at, AreAlike, IsLeftFrom, IsRightFrom, IsTaken}
use Rattle.assignment_model.specs.Prices.{Plan, price, weight_to, IsCertified, IsLoose}
use Rattle.deadhead_matrix.proofs.Days.{AreDepartures-ruled}
use Rattle.assignment_model.proofs.Looseness.{IsLoose-certified}
use Rattle.pair_graph.specs.Pairs.{PairsView, pairs_network}
use Rattle.pair_search.proofs.LooseLemmas.{weight-fits}
use Rattle.price_repair.specs.Cut.{plan_without}
use Rattle.price_repair.specs.Without.{pairs_without, IsCertifiedWith}
use Rattle.price_repair.proofs.WithoutLemmas.{LacksTrip, LacksTrip-without, get_or-set_default, fits-other, AreNextTrips-links}

-- the slot whose link is dropped has none
without-own : (links : List (Option ℕ)) (a : Option ℕ) (i : ℕ) → a ≡ Some i → next_of (without_link links a) i ≡ None
without-own links a i e = subst (λ b. next_of (without_link links b) i ≡ None) (sym e) (get_or-set_default links i None)

-- every other keeps its own
without-other : (links : List (Option ℕ)) (a : Option ℕ) (i : ℕ) → a ≢ Some i → next_of (without_link links a) i ≡ next_of links i
without-other links None i ne = refl
without-other links (Some h) i ne = get_or-set_other links h i None None (λ same. ne (ap Some (sym same)))

-- a slot that has none gets none
without-none : (links : List (Option ℕ)) (a : Option ℕ) (i : ℕ) → next_of links i ≡ None → next_of (without_link links a) i ≡ None
without-none links None i none = none
without-none links (Some h) i none = ⊎_elim
    (λ (same : i ≡ h). without-own links (Some h) i (ap Some (sym same)))
    (λ (other : i ≢ h). get_or-set_other links h i None None other ∙ none)
    (cases_eq i h)

length-without_link : (links : List (Option ℕ)) (a : Option ℕ) → length (without_link links a) ≡ length links
length-without_link links None = refl
length-without_link links (Some h) = length-set links h None

pub length-cut_at : (links : List (Option ℕ)) (s : ℕ) → length (cut_at links s) ≡ length links
length-cut_at links s = length-without_link (set links s None) (before_of links s) ∙ length-set links s None

cut-own : (links : List (Option ℕ)) (s : ℕ) → next_of (cut_at links s) s ≡ None
cut-own links s = without-none (set links s None) (before_of links s) s (get_or-set_default links s None)

cut-before : (links : List (Option ℕ)) (s i : ℕ) → before_of links s ≡ Some i → next_of (cut_at links s) i ≡ None
cut-before links s i before = without-own (set links s None) (before_of links s) i before

cut-other : (links : List (Option ℕ)) (s i : ℕ) → i ≢ s → before_of links s ≢ Some i → next_of (cut_at links s) i ≡ next_of links i
cut-other links s i other away = without-other (set links s None) (before_of links s) i away ∙ get_or-set_other links s i None None other

-- a link that is left was there, and is none of the slot's
pub record IsLeft (links : List (Option ℕ)) (s i j : ℕ) : Type 0 where
  pub from : i ≢ s
  pub to : j ≢ s
  pub was : next_of links i ≡ Some j

cut-left : (links : List (Option ℕ)) (s i j : ℕ) → AreApart links → next_of (cut_at links s) i ≡ Some j → IsLeft links s i j
cut-left links s i j apart e =
    let own : i ≢ s = λ same. none-some j (sym (cut-own links s) ∙ sym (ap (next_of (cut_at links s)) same) ∙ e) in
    let away : before_of links s ≢ Some i = λ before. none-some j (sym (cut-before links s i before) ∙ e) in
    let was : next_of links i ≡ Some j = sym (cut-other links s i own away) ∙ e in
    record { from = own; to = λ same. away (before-next links i s apart (was ∙ ap Some same)); was = was }

-- every other link is left
cut-keeps : (links : List (Option ℕ)) (s i j : ℕ) → i ≢ s → j ≢ s → next_of links i ≡ Some j → next_of (cut_at links s) i ≡ Some j
cut-keeps links s i j from to next = cut-other links s i from (λ before. to (same_Some j s (sym next ∙ next-before links i s before)))
    ∙ next

pub IsLoose-cut : (whole rest : Network) (departs after : ℕ → ℕ) (plan : Plan) (s : ℕ) → AreDepartures whole departs
    → AreDepartures rest after → LacksTrip whole rest s → IsLoose whole plan None None
    → IsLoose rest (plan_without plan s) (before_of plan.next s) (next_of plan.next s)
IsLoose-cut whole rest departs after plan s clock clock' lacks loose = record {
  leaves = length-set plan.leave s 0 ∙ loose.leaves ∙ sym (length-cut_at plan.next s);
  enters = length-set plan.enter s 0 ∙ loose.enters ∙ sym (length-cut_at plan.next s);
  links = record {
    fits = λ i j e. (let left = cut-left plan.next s i j once e in
        subst IsSome (sym (lacks.empty i j left.from left.to)) (loose.links.fits i j left.was));
    once = λ h i j e f. once h i j (cut-left plan.next s h j once e).was (cut-left plan.next s i j once f).was;
  };
  dead = λ t dead. dead_at t dead (cases_eq t s);
  before = before_at (before_of plan.next s) refl;
  after = after_at (next_of plan.next s) refl;
  covers = λ i j k _ _ e.
      (let other = fits-other whole rest after s i j lacks clock' (weight-fits rest i j k e) in
      omega (
        arith,
        get_or-set_other plan.leave s i 0 0 other.0,
        get_or-set_other plan.enter s j 0 0 other.1,
        loose.covers i j k (none-some i) (none-some j) (sym (lacks.weights i j other.0 other.1) ∙ e),
      ));
  tight = λ i j e.
      (let left = cut-left plan.next s i j once e in
      let weighs : weight_to rest i (Some j) ≡ weight_to whole i (Some j) = ap (λ w. unwrap_or w 0) (lacks.weights i j left.from left.to) in
      omega (
        arith,
        get_or-set_other plan.leave s i 0 0 left.from,
        get_or-set_other plan.enter s j 0 0 left.to,
        weighs,
        loose.tight i j
            left.was,
      ));
  leave_zero = λ t away none. leave_zero t away none (cases_eq t s);
  enter_zero = λ t away first. enter_zero t away first (cases_eq t s);
}
  where
    once : AreApart plan.next
    once = loose.links.once

    dead_at : (t : ℕ) → rest.live t ≡ false → (t ≡ s) ⊎ (t ≢ s)
        → (next_of (cut_at plan.next s) t ≡ None) × (price (set plan.leave s 0) t ≡ 0) × (price (set plan.enter s 0) t ≡ 0)
    dead_at t dead (inl same) = (
      ap (next_of (cut_at plan.next s)) same ∙ cut-own plan.next s,
      ap (price (set plan.leave s 0)) same ∙ get_or-set_default plan.leave s 0,
      ap (price (set plan.enter s 0)) same ∙ get_or-set_default plan.enter s 0,
    )
    dead_at t dead (inr other) =
        let was = loose.dead t (sym (lacks.live t other) ∙ dead) in (
          without-none (set plan.next s None) (before_of plan.next s) t (get_or-set_other plan.next s t None None other ∙ was.0),
          get_or-set_other plan.leave s t 0 0 other ∙ was.1,
          get_or-set_other plan.enter s t 0 0 other ∙ was.2,
        )

    apart : (i j : ℕ) → next_of plan.next i ≡ Some j → i ≢ j
    apart i j next same = let minutes : departs i ≡ departs j = ap departs same in
        let rises = clock.rises i j (loose.links.fits i j next) in omega (arith, minutes, rises)

    before_at : (a : Option ℕ) → before_of plan.next s ≡ a → IfSome a (λ i. (rest.live i ≡ true) × (next_of (cut_at plan.next s) i ≡ None))
    before_at None e = tt
    before_at (Some i) e =
        let next = next-before plan.next i s e in
        (lacks.live i (apart i s next) ∙ (clock.runs i s (loose.links.fits i s next)).0, cut-before plan.next s i e)

    after_at : (b : Option ℕ) → next_of plan.next s ≡ b
        → IfSome b (λ t. (rest.live t ≡ true) × ((i : ℕ) → next_of (cut_at plan.next s) i ≢ Some t))
    after_at None e = tt
    after_at (Some t) e = (
      lacks.live t (λ same. apart s t e (sym same)) ∙ (clock.runs s t (loose.links.fits s t e)).1,
      λ i f. (let left = cut-left plan.next s i t once f in left.from (once i s t left.was e)),
    )

    leave_zero : (t : ℕ) → before_of plan.next s ≢ Some t → next_of (cut_at plan.next s) t ≡ None → (t ≡ s) ⊎ (t ≢ s)
        → price (set plan.leave s 0) t ≡ 0
    leave_zero t away none (inl same) = ap (price (set plan.leave s 0)) same ∙ get_or-set_default plan.leave s 0
    leave_zero t away none (inr other) =
        get_or-set_other plan.leave s t 0 0 other ∙ loose.leave_zero t (none-some t) (sym (cut-other plan.next s t other away) ∙ none)

    enter_zero : (t : ℕ) → next_of plan.next s ≢ Some t → ((i : ℕ) → next_of (cut_at plan.next s) i ≢ Some t) → (t ≡ s) ⊎ (t ≢ s)
        → price (set plan.enter s 0) t ≡ 0
    enter_zero t away first (inl same) = ap (price (set plan.enter s 0)) same ∙ get_or-set_default plan.enter s 0
    enter_zero t away first (inr other) =
        get_or-set_other plan.enter s t 0 0 other
        ∙ loose.enter_zero t (none-some t) (λ i next. ⊎_elim
        (λ (same : i ≡ s). away (sym (ap (next_of plan.next) same) ∙ next))
        (λ (from : i ≢ s). first i (cut-keeps plan.next s i t from other next))
        (cases_eq i s))

-- where the plan is of as many slots, those that run before the take are among them
pub within-whole : (pairs : PairsView) (s : ℕ) (plan : Plan) → (w : IsCertifiedWith pairs s plan) → length plan.next ≡ length pairs.moves
    → (t : ℕ) → (pairs_network w.whole).live t ≡ true → t < length plan.next
within-whole pairs s plan w slots t live =
    let size : length (set w.whole.moves s None) ≡ length pairs.moves = ap (λ (p : PairsView). length p.moves) w.rest in
    omega (arith, runs-within w.whole.moves t live, size, length-set w.whole.moves s None, slots)

-- the plan with a trip is, once that is cut, loose without it
pub IsLoose-taken : (pairs : PairsView) (after : ℕ → ℕ) (s : ℕ) (plan cut : Plan) (a b : Option ℕ)
    → AreDepartures (pairs_network pairs) after → length plan.next ≡ length pairs.moves → IsCertifiedWith pairs s plan
    → cut ≡ plan_without plan s → a ≡ before_of plan.next s → b ≡ next_of plan.next s → IsLoose (pairs_network pairs) cut a b
IsLoose-taken pairs after s plan cut a b clock slots w is before next =
    let network = pairs_network w.whole in
    let departs : ℕ → ℕ = λ t. minute_left (move_at w.whole.moves t) in
    let whole = AreDepartures-ruled (length w.whole.matrix.walks) w.whole.names w.whole.moves w.whole.matrix w.valid in
    let loose = IsLoose-certified network departs plan whole (within-whole pairs s plan w slots) w.certified in
    let rest = subst (λ p. AreDepartures (pairs_network p) after) (sym w.rest) clock in
    let done = subst (λ p. IsLoose (pairs_network p) (plan_without plan s) (before_of plan.next s) (next_of plan.next s)) w.rest
    (IsLoose-cut network (pairs_network (pairs_without w.whole s)) departs after plan s whole rest (LacksTrip-without w.whole s) loose) in
    subst (λ p. IsLoose (pairs_network pairs) p a b) (sym is)
    (subst (λ i. IsLoose (pairs_network pairs) (plan_without plan s) i b) (sym before)
    (subst (IsLoose (pairs_network pairs) (plan_without plan s) (before_of plan.next s)) (sym next) done))

-- the links of the plan before, and after it
pub AreAlike-taken : (pairs : PairsView) (after : ℕ → ℕ) (s : ℕ) (old new : Plan) → AreDepartures (pairs_network pairs) after
    → length old.next ≡ length pairs.moves → IsCertifiedWith pairs s old
    → length new.next ≡ length pairs.moves → IsCertified (pairs_network pairs) new → AreAlike old.next new.next
AreAlike-taken pairs after s old new clock slots w same proved =
    let departs : ℕ → ℕ = λ t. minute_left (move_at w.whole.moves t) in
    let whole = AreDepartures-ruled (length w.whole.matrix.walks) w.whole.names w.whole.moves w.whole.matrix w.valid in
    record {
      before = AreNextTrips-links (pairs_network w.whole) departs old.next whole (within-whole pairs s old w slots) w.certified.links;
      after = AreNextTrips-links (pairs_network pairs) after new.next clock (λ t live. omega (arith, runs-within pairs.moves t live, same))
          proved.links;
      slots = same ∙ sym slots;
    }

-- the two searches after the cut
pub IsTaken-searched : (old cut mid new : Plan) (s : ℕ) (a b : Option ℕ) → AreAlike old.next new.next → cut ≡ plan_without old s
    → a ≡ before_of old.next s → b ≡ next_of old.next s
    → IsLeftFrom cut.next mid.next a → IsRightFrom mid.next new.next b → IsTaken old.next new.next s
IsTaken-searched old cut mid new s a b alike is before next left right = record {
  lists = alike;
  mid = mid.next;
  left = subst (IsLeftFrom (cut_at old.next s) mid.next) before (subst (λ (p : Plan). IsLeftFrom p.next mid.next a) is left);
  right = subst (IsRightFrom mid.next new.next) next right;
}
