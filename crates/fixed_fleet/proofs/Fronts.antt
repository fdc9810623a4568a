-- A position of each place in the order of ends: before it the vehicles have gone on, and from there on none has. The
-- first trip from there on that ends at the place is the forerunner, where it ends in time.
use Rattle.std.proofs.Common.{◌≡◌, ◌≢◌, ℕ, zero, suc, ◌+◌, ◌<◌, ◌≤◌, ◌==◌, nat_le, Bool, true, false, cond, List, [], ◌∷◌, length, get_or}
use Rattle.std.proofs.Common.{set, take, fold, replicate, All, Option, None, Some, if◌then◌else◌, refl, sym, ap, subst, ◌∙◌, inl, inr}
use Rattle.std.proofs.Common.{⊎_elim, arith}
use Rattle.std.specs.Option.{is_none, is_some}
use Rattle.std.proofs.lemmas.Bool.{and_parts, and_from, eq-eqb, ne_eqb, eqb-true, leb-true, le-leb, false≢true, cases_eq, cases_lt}
use Rattle.std.proofs.lemmas.List.{take_more, length-map, length-set, length-replicate, get_or-replicate, get_or-set_same, get_or-set_other}
use Rattle.std.proofs.lemmas.List.Elements.{All-from_recursion}
use Rattle.std.proofs.lemmas.List.Sums.{sum_by-cons, fold_push}
use Rattle.std.proofs.lemmas.Option.{none-some}
use Rattle.trip_model.specs.Blocking.{times}
use Rattle.trip_model.specs.Links.{next_of}
use Rattle.trip_model.specs.Order.{minute_arrived, by_end, RiseBy, TiesRise}
use Rattle.trip_model.specs.Plain.{move_at, meets, move_of_slot, trip_moves}
use Rattle.trip_model.specs.Timetable.{TimetableView, Slot, slot_at}
use Rattle.trip_model.specs.Trip.{move_of}
use Rattle.trip_model.specs.declared.trip.Move.{Move}
use Rattle.trip_model.proofs.OrderLemmas.{StandsOnce-by_end, RiseBy-by_end, TiesRise-by_end, slot-move, slot-live, slot-ends}
use Rattle.fixed_fleet.specs.Rule.{may_precede, forerunner, with_link, IsForerunner}
use Rattle.fixed_fleet.proofs.Forerunners.{IsForerunner-forerunner, forerunner-once}
use Rattle.fixed_fleet.proofs.FirstInFirstOut.{next-set, next-kept, none-linked, no_next}

-- what rises by its keys rises by its places
order-at : (key : ℕ → ℕ) (xs : List ℕ) → RiseBy key xs → TiesRise key xs → (k m : ℕ) → k < m → m < length xs
    → (key (get_or xs k 0) ≤ key (get_or xs m 0)) × (key (get_or xs k 0) ≡ key (get_or xs m 0) → get_or xs k 0 < get_or xs m 0)
order-at key [] rise ties k m before within = absurd (omega arith)
order-at key (x ∷ xs) rise ties k zero before within = absurd (omega arith)
order-at key (x ∷ xs) rise ties zero (suc m) before within = (
  All-from_recursion (λ y. key x ≤ key y) xs rise.0 m 0 (omega arith),
  All-from_recursion (λ y. key x ≡ key y → x < y) xs ties.0 m 0 (omega arith),
)
order-at key (x ∷ xs) rise ties (suc k) (suc m) before within = order-at key xs rise.1 ties.1 k m (omega arith) (omega arith)

-- a slot that is in a list has a position there
position-of : (s : ℕ) (xs : List ℕ) → 0 < times s xs → (k : ℕ) × (k < length xs) × (get_or xs k 0 ≡ s)
position-of s [] h = absurd (omega arith)
position-of s (x ∷ xs) h = ⊎_elim
    (λ (same : x ≡ s). (0, omega arith, same))
    (λ (other : x ≡ s → ⊥).
    let none : ◌≡◌ {A = ℕ} (cond (x == s) 1 0) 0 = ap (λ t. cond t 1 0) (ne_eqb x s other) in
    let rest = position-of s xs (omega (arith, h, none, sum_by-cons (λ x. cond (x == s) 1 0) x xs)) in
    (suc rest.0, (let lt = rest.1 in omega arith), rest.2))
    (cases_eq x s)

-- The slots that run, by end, and those of one end by number.
pub record IsByEnd (t : TimetableView) (ended : List ℕ) : Type 0 where
  pub order : (k m : ℕ) → k < m → m < length ended
      → ((slot_at t (get_or ended k 0)).trip.ends ≤ (slot_at t (get_or ended m 0)).trip.ends)
      × ((slot_at t (get_or ended k 0)).trip.ends ≡ (slot_at t (get_or ended m 0)).trip.ends → get_or ended k 0 < get_or ended m 0)
  pub each : (s : ℕ) → (slot_at t s).trip.live ≡ true → (k : ℕ) × (k < length ended) × (get_or ended k 0 ≡ s)
  pub live : (k : ℕ) → k < length ended → (slot_at t (get_or ended k 0)).trip.live ≡ true

pub IsByEnd-by_end : (t : TimetableView) (ended : List ℕ) → ended ≡ by_end (trip_moves t.slots)
    → All (λ s. (slot_at t s).trip.live ≡ true) ended → IsByEnd t ended
IsByEnd-by_end t ended is live =
    let key = λ (s : ℕ). minute_arrived (move_at (trip_moves t.slots) s) in
    record {
      order = λ k m before within.
          let lex = order-at key ended (subst (RiseBy key) (sym is) (RiseBy-by_end (trip_moves t.slots)))
          (subst (TiesRise key) (sym is) (TiesRise-by_end (trip_moves t.slots))) k m before within in
          let a = slot-ends t (get_or ended k 0) (live k 0 (omega arith)) in
          let b = slot-ends t (get_or ended m 0) (live m 0 within) in
          ((let le = lex.0 in omega (arith, a, b)), λ same. lex.1 (a ∙ same ∙ sym b));
      each = λ s runs.
          let one : ◌≡◌ {A = ℕ} (cond (is_some (move_at (trip_moves t.slots) s)) 1 0) 1 = ap (λ b. cond b 1 0) (slot-live t s ∙ runs) in
          position-of s ended (omega (arith, ap (times s) is, (StandsOnce-by_end (trip_moves t.slots)).once s, one));
      live = λ k within. live k 0 within;
    }

-- At a place, the vehicles of the trips before a position have gone on, and those from there on have not.
pub record IsFront (t : TimetableView) (links : List (Option ℕ)) (ended : List ℕ) (place at : ℕ) : Type 0 where
  pub end : at ≤ length ended
  pub gone : (k : ℕ) → k < at → (slot_at t (get_or ended k 0)).trip.to ≡ place → next_of links (get_or ended k 0) ≡ None → ⊥
  pub free : (k : ℕ) → at ≤ k → k < length ended → (slot_at t (get_or ended k 0)).trip.to ≡ place → next_of links (get_or ended k 0) ≡ None

pub IsFront-start : (t : TimetableView) (n : ℕ) (ended : List ℕ) (place : ℕ) → IsFront t (replicate n None) ended place 0
IsFront-start t n ended place = record {
  end = omega arith;
  gone = λ k lt to free. omega arith;
  free = λ k le lt to. none-linked n (get_or ended k 0);
}

-- no trip that is passed ends at the place
pub IsFront-on : (t : TimetableView) (links : List (Option ℕ)) (ended : List ℕ) (place at next : ℕ) → IsFront t links ended place at
    → at ≤ next → next ≤ length ended
    → ((k : ℕ) → at ≤ k → k < next → (slot_at t (get_or ended k 0)).trip.to ≢ place) → IsFront t links ended place next
IsFront-on t links ended place at next front on end passed = record {
  end = end;
  gone = λ k lt to free. ⊎_elim (λ (h : k < at). front.gone k h to free) (λ (h : at ≤ k). passed k h lt to) (cases_lt k at);
  free = λ k le lt to. front.free k (omega arith) lt to;
}

-- no slot stands twice in the order of ends
apart : (t : TimetableView) (ended : List ℕ) (k m : ℕ) → IsByEnd t ended → k < m → m < length ended → get_or ended k 0 ≡ get_or ended m 0
    → ⊥
apart t ended k m are before within same =
    let lt = (are.order k m before within).1 (ap (λ s. (slot_at t s).trip.ends) same) in
    let eq : get_or ended k 0 ≡ get_or ended m 0 = same in
    omega arith

-- the vehicle at the position goes on
pub IsFront-taken : (t : TimetableView) (links : List (Option ℕ)) (ended : List ℕ) (place at i j : ℕ) → IsByEnd t ended
    → IsFront t links ended place at
    → at < length ended → i ≡ get_or ended at 0 → i < length links → IsFront t (set links i (Some j)) ended place (at + 1)
IsFront-taken t links ended place at i j are front within is linked = record {
  end = omega arith;
  gone = λ k lt to free. ⊎_elim
      (λ (same : k ≡ at). none-some j (sym free ∙ next-set links i j (get_or ended k 0) linked (ap (λ k. get_or ended k 0) same ∙ sym is)))
      (λ (other : k ≡ at → ⊥).
      let ne : k ≢ at = other in
      front.gone k (omega arith) to (sym
      (next-kept links i j (get_or ended k 0) (λ e. apart t ended k at are (omega arith) within (e ∙ is))) ∙ free))
      (cases_eq k at);
  free = λ k le lt to.
      next-kept links i j (get_or ended k 0) (λ e. apart t ended at k are (omega arith) lt (sym is ∙ sym e))
      ∙ front.free k (omega arith) lt to;
}

-- at another place nothing changes
pub IsFront-kept : (t : TimetableView) (links : List (Option ℕ)) (ended : List ℕ) (place at i j : ℕ) → IsFront t links ended place at
    → ((slot_at t i).trip.to ≡ place → ⊥)
    → IsFront t (set links i (Some j)) ended place at
IsFront-kept t links ended place at i j front elsewhere =
    let other : (k : ℕ) → (slot_at t (get_or ended k 0)).trip.to ≡ place → get_or ended k 0 ≡ i
    → ⊥ = λ k to e. elsewhere (ap (λ s. (slot_at t s).trip.to) (sym e) ∙ to) in
    record {
      end = front.end;
      gone = λ k lt to free. front.gone k lt to (sym (next-kept links i j (get_or ended k 0) (other k to)) ∙ free);
      free = λ k le lt to. next-kept links i j (get_or ended k 0) (other k to) ∙ front.free k le lt to;
    }

-- Such a position of each place.
pub record AreFronts (t : TimetableView) (links : List (Option ℕ)) (ended fronts : List ℕ) : Type 0 where
  pub each : (p : ℕ) → p < length fronts → IsFront t links ended p (get_or fronts p 0)

pub AreFronts-start : (t : TimetableView) (n places : ℕ) (ended : List ℕ) → AreFronts t (replicate n None) ended (replicate places 0)
AreFronts-start t n places ended = record {
  each = λ p lt. subst (IsFront t (replicate n None) ended p)
      (sym (get_or-replicate places p 0 0 (omega (arith, length-replicate {A = ℕ} places 0)))) (IsFront-start t n ended p);
}

pub AreFronts-set : (t : TimetableView) (links : List (Option ℕ)) (ended fronts : List ℕ) (place at : ℕ) → place < length fronts
    → AreFronts t links ended fronts → IsFront t links ended place at
    → AreFronts t links ended (set fronts place at)
AreFronts-set t links ended fronts place at within are front = record {
  each = λ p lt. ⊎_elim
      (λ (same : p ≡ place).
      subst (λ q. IsFront t links ended q (get_or (set fronts place at) q 0)) (sym same)
      (subst (IsFront t links ended place) (sym (get_or-set_same fronts place at 0 within)) front))
      (λ (other : p ≡ place → ⊥).
      subst (IsFront t links ended p) (sym (get_or-set_other fronts place p at 0 other))
      (are.each p (omega (arith, length-set fronts place at))))
      (cases_eq p place);
}

-- a vehicle of a place goes on
pub AreFronts-taken : (t : TimetableView) (links : List (Option ℕ)) (ended fronts : List ℕ) (place at i j : ℕ) → IsByEnd t ended
    → AreFronts t links ended fronts → place < length fronts
    → IsFront t links ended place at → at < length ended → i ≡ get_or ended at 0 → i < length links → (slot_at t i).trip.to ≡ place
    → AreFronts t (set links i (Some j)) ended (set fronts place (at + 1))
AreFronts-taken t links ended fronts place at i j are fronts_are within front lt is linked to = record {
  each = λ p h. ⊎_elim
      (λ (same : p ≡ place).
      subst (λ q. IsFront t (set links i (Some j)) ended q (get_or (set fronts place (at + 1)) q 0)) (sym same)
      (subst (IsFront t (set links i (Some j)) ended place) (sym (get_or-set_same fronts place (at + 1) 0 within))
      (IsFront-taken t links ended place at i j are front lt is linked)))
      (λ (other : p ≡ place → ⊥).
      subst (IsFront t (set links i (Some j)) ended p) (sym (get_or-set_other fronts place p (at + 1) 0 other))
      (IsFront-kept t links ended p (get_or fronts p 0) i j (fronts_are.each p (omega (arith, h, length-set fronts place (at + 1))))
      (λ e. other (sym e ∙ to))))
      (cases_eq p place);
}

-- two trips that meet
meets-slots : (x y : Slot) (a b : Bool)
    → meets (if a then Some (move_of x.trip) else None) (if b then Some (move_of y.trip) else None) ≡ true
    → (a ≡ true) × (x.trip.to ≡ y.trip.from) × (x.trip.ends ≤ y.trip.departs)
meets-slots x y true true e =
    let parts = and_parts (x.trip.to == y.trip.from) (nat_le x.trip.ends y.trip.departs) e in
    (refl, eqb-true x.trip.to y.trip.from parts.0, leb-true x.trip.ends y.trip.departs parts.1)
meets-slots x y true false e = absurd (false≢true e)
meets-slots x y false b e = absurd (false≢true e)

slots-meet : (x y : Slot) (a b : Bool) → a ≡ true → b ≡ true → x.trip.to ≡ y.trip.from → x.trip.ends ≤ y.trip.departs
    → meets (if a then Some (move_of x.trip) else None) (if b then Some (move_of y.trip) else None) ≡ true
slots-meet x y true true live_x live_y to le =
    and_from (x.trip.to == y.trip.from) (nat_le x.trip.ends y.trip.departs) (eq-eqb x.trip.to y.trip.from to)
    (le-leb x.trip.ends y.trip.departs le)
slots-meet x y true false live_x live_y to le = absurd (false≢true live_y)
slots-meet x y false b live_x live_y to le = absurd (false≢true live_x)

-- the vehicle of a slot is free and stands where j begins when j departs
record Precedes (t : TimetableView) (links : List (Option ℕ)) (j h : ℕ) : Type 0 where
  next : next_of links h ≡ None
  live : (slot_at t h).trip.live ≡ true
  place : (slot_at t h).trip.to ≡ (slot_at t j).trip.from
  in_time : (slot_at t h).trip.ends ≤ (slot_at t j).trip.departs

precedes : (t : TimetableView) (links : List (Option ℕ)) (j h : ℕ) → may_precede (trip_moves t.slots) links j h ≡ true
    → Precedes t links j h
precedes t links j h may =
    let parts = and_parts (is_none (next_of links h)) (meets (move_at (trip_moves t.slots) h) (move_at (trip_moves t.slots) j)) may in
    let meet = meets-slots (slot_at t h) (slot_at t j) ((slot_at t h).trip.live) ((slot_at t j).trip.live)
    ((λ i. meets (sym (slot-move t h) i) (sym (slot-move t j) i)) ∙ parts.1) in
    record { next = no_next (next_of links h) parts.0; live = meet.0; place = meet.1; in_time = meet.2 }

may-precede : (t : TimetableView) (links : List (Option ℕ)) (j h : ℕ) → (slot_at t j).trip.live ≡ true → Precedes t links j h
    → may_precede (trip_moves t.slots) links j h ≡ true
may-precede t links j h runs is =
    and_from (is_none (next_of links h)) (meets (move_at (trip_moves t.slots) h) (move_at (trip_moves t.slots) j)) (ap is_none is.next)
    ((λ i. meets (slot-move t h i) (slot-move t j i))
    ∙ slots-meet (slot_at t h) (slot_at t j) ((slot_at t h).trip.live) ((slot_at t j).trip.live) is.live runs is.place is.in_time)

-- the slot of such a vehicle comes at the front or behind it
behind : (t : TimetableView) (links : List (Option ℕ)) (ended : List ℕ) (j h at : ℕ) → IsByEnd t ended
    → IsFront t links ended (slot_at t j).trip.from at → Precedes t links j h
    → (k : ℕ) × (at ≤ k) × (k < length ended) × (get_or ended k 0 ≡ h)
behind t links ended j h at are front is =
    let pos = are.each h is.live in
    ⊎_elim
    (λ (lt : pos.0 < at). absurd (front.gone pos.0 lt (ap (λ s. (slot_at t s).trip.to) pos.2 ∙ is.place)
    (ap (next_of links) pos.2 ∙ is.next)))
    (λ (le : at ≤ pos.0). (pos.0, le, pos.1, pos.2))
    (cases_lt pos.0 at)

-- the trip at the front ends no later than those behind it, and of those that end together its slot is the least
front-first : (t : TimetableView) (ended : List ℕ) (at k : ℕ) → IsByEnd t ended → at ≤ k → k < length ended
    → ((slot_at t (get_or ended at 0)).trip.ends ≤ (slot_at t (get_or ended k 0)).trip.ends)
    × ((slot_at t (get_or ended at 0)).trip.ends ≡ (slot_at t (get_or ended k 0)).trip.ends → get_or ended at 0 ≤ get_or ended k 0)
front-first t ended at k are le within = ⊎_elim
    (λ (same : at ≡ k).
    let ends = ap (λ k. (slot_at t (get_or ended k 0)).trip.ends) same in
    let slots = ap (λ k. get_or ended k 0) same in (
      (let h : (slot_at t (get_or ended at 0)).trip.ends ≤ (slot_at t (get_or ended k 0)).trip.ends = omega (arith, ends) in h),
      λ _. omega
          (arith, slots),
    ))
    (λ (other : at ≡ k → ⊥).
    let ne : at ≢ k = other in
    let lex = are.order at k (omega arith) within in
    (lex.0, λ same. let lt = lex.1 same in omega arith))
    (cases_eq at k)

-- the forerunner is the slot at the front, where its trip ends where the next one begins, and in time
pub forerunner-front : (t : TimetableView) (links : List (Option ℕ)) (ended : List ℕ) (j i at : ℕ) → IsByEnd t ended
    → IsFront t links ended (slot_at t j).trip.from at
    → (slot_at t j).trip.live ≡ true → i < length t.slots → at < length ended → i ≡ get_or ended at 0
    → (slot_at t i).trip.to ≡ (slot_at t j).trip.from → (slot_at t i).trip.ends ≤ (slot_at t j).trip.departs
    → Some i ≡ forerunner (trip_moves t.slots) links j
forerunner-front t links ended j i at are front runs slot within is to in_time =
    let moves = trip_moves t.slots in
    let live_i : (slot_at t i).trip.live ≡ true = ap (λ s. (slot_at t s).trip.live) is ∙ are.live at within in
    let free : next_of links i ≡ None = ap (next_of links) is
    ∙ front.free at (omega arith) within (ap (λ s. (slot_at t s).trip.to) (sym is) ∙ to) in
    let found : IsForerunner moves links j (Some i) = (
      omega (arith, slot, length-map t.slots move_of_slot),
      may-precede t links j i runs (record { next = free; live = live_i; place = to; in_time = in_time }),
      λ h lt may.
          let before = precedes t links j h may in
          let pos = behind t links ended j h at are front before in
          let lex = front-first t ended at pos.0 are pos.1 pos.2 in
          let a = slot-ends t i live_i in
          let b = slot-ends t h before.live in
          let c = ap (λ s. (slot_at t s).trip.ends) is in
          let d = ap (λ s. (slot_at t s).trip.ends) pos.3 in
          let e = pos.3 in
          ⊎_elim
          (λ (sooner : (slot_at t i).trip.ends < (slot_at t h).trip.ends). inl (omega (arith, a, b, sooner)))
          (λ (not_sooner : (slot_at t h).trip.ends ≤ (slot_at t i).trip.ends).
          let le = lex.0 in
          let tie : (slot_at t (get_or ended at 0)).trip.ends ≡ (slot_at t (get_or ended pos.0 0)).trip.ends =
          omega (arith, c, d, le, not_sooner) in
          let least = lex.1 tie in
          inr (omega (arith, a, b, c, d, le, not_sooner), omega (arith, is, e, least)))
          (cases_lt ((slot_at t i).trip.ends) ((slot_at t h).trip.ends)),
    ) in
    forerunner-once moves links j (Some i) (forerunner moves links j) found (IsForerunner-forerunner moves links j)

-- there is no forerunner where the trip at the front ends too late
pub forerunner-late : (t : TimetableView) (links : List (Option ℕ)) (ended : List ℕ) (j at : ℕ) → IsByEnd t ended
    → IsFront t links ended (slot_at t j).trip.from at
    → (at < length ended → (slot_at t j).trip.departs < (slot_at t (get_or ended at 0)).trip.ends)
    → None ≡ forerunner (trip_moves t.slots) links j
forerunner-late t links ended j at are front late =
    let moves = trip_moves t.slots in
    forerunner-once moves links j None (forerunner moves links j) (λ h lt may.
    let before = precedes t links j h may in
    let pos = behind t links ended j h at are front before in
    let lex = front-first t ended at pos.0 are pos.1 pos.2 in
    let d = ap (λ s. (slot_at t s).trip.ends) pos.3 in
    let le = lex.0 in
    let from = pos.1 in
    let to = pos.2 in
    let too_late = late (omega arith) in
    let in_time = before.in_time in
    omega (arith, d, le, too_late, in_time)) (IsForerunner-forerunner moves links j)

-- the links with those to one more slot
pub linked-more : (moves : List (Option Move)) (start links : List (Option ℕ)) (order : List ℕ) (i : ℕ) → i < length order
    → links ≡ fold (λ links j. with_link links (forerunner moves links j) j) start (take i order) → (found : Option ℕ)
    → found ≡ forerunner moves links (get_or order i 0)
    → with_link links found (get_or order i 0) ≡ fold (λ links j. with_link links (forerunner moves links j) j) start (take (i + 1) order)
linked-more moves start links order i within so_far found is =
    let step : List (Option ℕ) → ℕ → List (Option ℕ) = λ links j. with_link links (forerunner moves links j) j in
    ap (λ f. with_link links f (get_or order i 0)) is
    ∙ ap (λ ls. step ls (get_or order i 0)) so_far
    ∙ sym (fold_push step start (take i order) (get_or order i 0))
    ∙ ap (fold step start) (sym (take_more order i 0 within))

-- At the trip of j the front of its place moves on to `at`.
pub record AreNext (t : TimetableView) (links : List (Option ℕ)) (ended fronts : List ℕ) (j place at : ℕ) : Type 0 where
  pub front : IsFront t links ended (slot_at t j).trip.from at
  pub all : AreFronts t links ended (set fronts place at)

pub AreNext-on : (t : TimetableView) (links : List (Option ℕ)) (ended fronts : List ℕ) (j place at : ℕ) → AreFronts t links ended fronts
    → place < length fronts → place ≡ (slot_at t j).trip.from
    → get_or fronts place 0 ≤ at → at ≤ length ended
    → ((k : ℕ) → get_or fronts place 0 ≤ k → k < at → (slot_at t (get_or ended k 0)).trip.to ≢ place)
    → AreNext t links ended fronts j place at
AreNext-on t links ended fronts j place at are within is on end passed =
    let front = IsFront-on t links ended place (get_or fronts place 0) at (are.each place within) on end passed in
    record { front = subst (λ p. IsFront t links ended p at) is front; all = AreFronts-set t links ended fronts place at within are front }
