-- What the deadheads of a chain change of the deficits, and that the sum of the maxima falls by one.
use Rattle.std.proofs.Common.{◌≡◌, ◌≢◌, ℕ, suc, ◌+◌, ◌≤◌, ◌==◌, ◌&&◌, Bool, true, false, cond, nat_le, List, [], ◌∷◌, ◌++◌, refl, sym, ap}
use Rattle.std.proofs.Common.{subst, ◌∙◌, ⊎_elim, arith}
use Rattle.std.specs.Prelude.{Contains, ℤ, pos, ◌+ℤ◌, ◌-ℤ◌}
use Rattle.std.proofs.lemmas.Bool.{and_left, cases_eq, eq-eqb, ne_eqb}
use Rattle.std.proofs.lemmas.Int.{ints}
use Rattle.std.proofs.lemmas.List.Sums.{sum_by-append, sum_by-cons}
use Rattle.trip_model.specs.declared.trip.Move.{Move}
use Rattle.trip_model.specs.Deficit.{arrivals, deficit, departures}
use Rattle.trip_model.specs.Maximum.{first_maximum, sum_of_maxima}
use Rattle.trip_model.proofs.MaximumLemmas.{first_maximum-agree}
use Rattle.deficit_steps.specs.NextMaximum.{IsNextMaximum, NoNextMaximum}
use Rattle.deficit_steps.proofs.DeficitsLemmas.{sum_of_maxima-agree}
use Rattle.dh_chains.specs.declared.chain.Deadhead.{Deadhead}
use Rattle.dh_chains.specs.Chains.{IsUnitChain, Places, move_of, moves_of, with_deadheads}
use Rattle.dh_chains.specs.Search.{IsTail}
use Rattle.dh_chains.proofs.Maxima.{kept-after, kept-between, lowered-at, sum-lowered, unit}
use Rattle.dh_chains.proofs.Routes.{branch-of-chain}

-- the departure of a deadhead, and its arrival, as they count at a place up to a minute
abbrev departure : Deadhead → ℕ → ℕ → ℤ
departure m place minute = unit ((m.from == place) && nat_le m.leaves minute)

abbrev arrival : Deadhead → ℕ → ℕ → ℤ
arrival m place minute = unit ((m.to == place) && nat_le m.arrives minute)

-- what deadheads change
abbrev effect : List Deadhead → ℕ → ℕ → ℤ
effect [] place minute = pos 0
effect (m ∷ ms) place minute = (departure m place minute -ℤ arrival m place minute) +ℤ effect ms place minute

-- what the departure of a deadhead and all that follows it change
abbrev onward : Deadhead → List Deadhead → ℕ → ℕ → ℤ
onward last rest place minute = departure last place minute +ℤ effect rest place minute

deficit-effect : (ms : List Deadhead) (place minute : ℕ) → deficit (moves_of ms) place minute ≡ effect ms place minute
deficit-effect [] place minute = omega (arith, ints)
deficit-effect (m ∷ ms) place minute =
    (λ i. pos (sum_by-cons (λ (n : Move). cond ((n.from == place) && nat_le n.leaves minute) 1 0) (move_of m) (moves_of ms) i)
    -ℤ pos (sum_by-cons (λ (n : Move). cond ((n.to == place) && nat_le n.arrives minute) 1 0) (move_of m) (moves_of ms) i))
    ∙ counted ((m.from == place) && nat_le m.leaves minute) ((m.to == place) && nat_le m.arrives minute)
    (departures (moves_of ms) place minute) (arrivals (moves_of ms) place minute)
    ∙ ap (λ z. (departure m place minute -ℤ arrival m place minute) +ℤ z) (deficit-effect ms place minute)
  where
    counted : (a b : Bool) (x y : ℕ) → (pos (cond a 1 0 + x) -ℤ pos (cond b 1 0 + y)) ≡ ((unit a -ℤ unit b) +ℤ (pos x -ℤ pos y))
    counted true true x y = omega (arith, ints)
    counted true false x y = omega (arith, ints)
    counted false true x y = omega (arith, ints)
    counted false false x y = omega (arith, ints)

-- at another place nothing counts, and at the place itself what comes in time
elsewhere : (a place : ℕ) (test : Bool) → a ≢ place → unit ((a == place) && test) ≡ pos 0
elsewhere a place test other = ap unit (and_left (a == place) test (ne_eqb a place other))

here : (a place : ℕ) (test : Bool) → a ≡ place → unit ((a == place) && test) ≡ unit test
here a place test same = ap (λ b. unit (b && test)) (eq-eqb a place same)

has-more : (had : List ℕ) (p q : ℕ) → Contains had p → Contains (q ∷ had) p
has-more had p q has = (suc has.0, omega (arith, has.1), has.2)

-- how a chain goes on changes nothing at the places that it had before but the last
quiet : (places : Places) (had : List ℕ) (last : Deadhead) (rest : List Deadhead) → IsTail places had last rest → (p : ℕ) → Contains had p
    → p ≢ last.from
    → (t : ℕ) → onward last rest p t ≡ pos 0
quiet places had last [] tail p has other t = let off = elsewhere last.from p (nat_le last.leaves t) (λ e. other (sym e)) in
    omega (arith, ints, off)
quiet places had last (next ∷ rest) tail p has other t =
    let off = elsewhere last.from p (nat_le last.leaves t) (λ e. other (sym e)) in
    let into = tail.1.into in
    let away = elsewhere next.to p (nat_le next.arrives t) (λ e. other (sym e ∙ into)) in
    let behind = quiet places (next.from ∷ had) next rest tail.2 p (has-more had p next.from has)
    (λ e. tail.1.fresh (subst (Contains had) e has)) t in
    omega (arith, ints, off, away, behind)

-- and it keeps the maximum of every place
kept : (places : Places) (had : List ℕ) (last : Deadhead) (rest : List Deadhead) → IsTail places had last rest → Contains had last.from
    → (p : ℕ) (e : ℕ → ℤ)
    → ((t : ℕ) → t ≤ 8191 → e t ≡ (places.deficit p t +ℤ onward last rest p t)) → (first_maximum e).0 ≡ (first_maximum (places.deficit p)).0
kept places had last [] tail has p e changed = ⊎_elim
    (λ (same : last.from ≡ p). kept-after (places.deficit p) e last.leaves
    (subst (λ k. NoNextMaximum (places.deficit k) last.leaves) same tail)
    (λ t h. let now = changed t h in let on = here last.from p (nat_le last.leaves t) same in omega (arith, ints, now, on)))
    (λ (other : last.from ≡ p → ⊥). ap (λ (m : ℤ × ℕ). m.0) (first_maximum-agree e (places.deficit p)
    (λ t h. let now = changed t h in let off = elsewhere last.from p (nat_le last.leaves t) other in omega (arith, ints, now, off))))
    (cases_eq last.from p)
kept places had last (next ∷ rest) tail has p e changed =
    let into = tail.1.into in
    ⊎_elim
    (λ (same : last.from ≡ p).
    let had_p : Contains had p = subst (Contains had) same has in
    kept-between (places.deficit p) e last.leaves next.arrives
    (subst (λ k. IsNextMaximum (places.deficit k) last.leaves next.arrives) same tail.0)
    (λ t h. let now = changed t h in
    let left_ = here last.from p (nat_le last.leaves t) same in
    let came = here next.to p (nat_le next.arrives t) (into ∙ same) in
    let behind = quiet places (next.from ∷ had) next rest tail.2 p (has-more had p next.from had_p)
    (λ q. tail.1.fresh (subst (Contains had) q had_p)) t in
    omega (arith, ints, now, left_, came, behind)))
    (λ (other : last.from ≡ p → ⊥).
    kept places (next.from ∷ had) next rest tail.2 (0, omega arith, refl) p e
    (λ t h. let now = changed t h in
    let off = elsewhere last.from p (nat_le last.leaves t) other in
    let away = elsewhere next.to p (nat_le next.arrives t) (λ q. other (sym into ∙ q)) in
    omega (arith, ints, now, off, away)))
    (cases_eq last.from p)

-- with a chain the sum of the maxima is less by one
pub falls : (places : Places) (first : Deadhead) (rest : List Deadhead) → IsUnitChain places first rest
    → (sum_of_maxima (with_deadheads places.deficit (first ∷ rest)) places.count +ℤ pos 1) ≡ sum_of_maxima places.deficit places.count
falls places first rest chain =
    let branch = branch-of-chain places first rest chain in
    let had = first.from ∷ first.to ∷ [] in
    let apart : first.to ≢ first.from = λ same. branch.arriving.fresh (0, omega arith, same) in
    sum-lowered places.deficit (with_deadheads places.deficit (first ∷ rest)) places.count first.to chain.target
    (lowered-at (places.deficit first.to) (with_deadheads places.deficit (first ∷ rest) first.to) first.arrives chain.in_time
    (λ t h.
    let effect_is = deficit-effect (first ∷ rest) first.to t in
    let came = here first.to first.to (nat_le first.arrives t) refl in
    let behind = quiet places had first rest branch.tail first.to (1, omega arith, refl) apart t in
    omega (arith, ints, effect_is, came, behind)))
    (λ p within other. kept places had first rest branch.tail (0, omega arith, refl) p (with_deadheads places.deficit (first ∷ rest) p)
    (λ t h.
    let effect_is = deficit-effect (first ∷ rest) p t in
    let away = elsewhere first.to p (nat_le first.arrives t) (λ e. other (sym e)) in
    omega (arith, ints, effect_is, away)))

-- moves that are made one list after the other
pub deficit-append : (moves more : List Move) (place minute : ℕ)
    → deficit (moves ++ more) place minute ≡ (deficit moves place minute +ℤ deficit more place minute)
deficit-append moves more place minute =
    (λ i. pos (sum_by-append (λ (n : Move). cond ((n.from == place) && nat_le n.leaves minute) 1 0) moves more i)
    -ℤ pos (sum_by-append (λ (n : Move). cond ((n.to == place) && nat_le n.arrives minute) 1 0) moves more i))
    ∙ sums (departures moves place minute) (departures more place minute) (arrivals moves place minute) (arrivals more place minute)
  where
    sums : (a b c d : ℕ) → (pos (a + b) -ℤ pos (c + d)) ≡ ((pos a -ℤ pos c) +ℤ (pos b -ℤ pos d))
    sums a b c d = omega (arith, ints)

-- so is that of moves and the deadheads besides
pub falls-held : (places : Places) (moves : List Move) (first : Deadhead) (rest : List Deadhead)
    → IsUnitChain (record places { deficit = deficit moves }) first rest
    → (sum_of_maxima (deficit (moves ++ moves_of (first ∷ rest))) places.count +ℤ pos 1) ≡ sum_of_maxima (deficit moves) places.count
falls-held places moves first rest chain =
    ap (λ z. z +ℤ pos 1) (sum_of_maxima-agree (deficit (moves ++ moves_of (first ∷ rest))) (with_deadheads (deficit moves) (first ∷ rest))
    places.count
    (λ k t h minute. deficit-append moves (moves_of (first ∷ rest)) k t))
    ∙ falls (record places { deficit = deficit moves }) first rest chain
