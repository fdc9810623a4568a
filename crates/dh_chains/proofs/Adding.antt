-- The deadheads of a chain are moves, and what deficits hold and keep with them.
use Rattle.std.proofs.Common.{◌≡◌, ℕ, ◌<◌, ◌≤◌, List, [], ◌∷◌, ◌++◌, length, Option, None, Some, sym, ap, subst, ◌∙◌, arith}
use Rattle.std.specs.Prelude.{All, ℤ, pos, neg_ℤ, negsuc, ◌+ℤ◌, ◌≤ℤ◌, ◌<ℤ◌}
use Rattle.std.proofs.lemmas.Int.{ints}
use Rattle.std.proofs.lemmas.List.Elements.{All-cons, All-head, All-nil, All-tail}
use Rattle.trip_model.specs.declared.trip.Move.{Move}
use Rattle.trip_model.specs.Deficit.{deficit}
use Rattle.trip_model.specs.Maximum.{sum_of_maxima}
use Rattle.trip_model.specs.Plain.{IsMove}
use Rattle.trip_model.proofs.MaximumLemmas.{IsFirstMaximum-first_maximum}
use Rattle.deficit_steps.specs.Changes.{IsDeficits, value}
use Rattle.deficit_steps.specs.Holds.{Holds}
use Rattle.deficit_steps.proofs.DeficitsLemmas.{sum_of_maxima-agree, value-held}
use Rattle.dh_chains.specs.declared.chain.Chain.{Chain}
use Rattle.dh_chains.specs.declared.chain.Deadhead.{Deadhead}
use Rattle.dh_chains.specs.Chains.{GoesOn, IsChainOf, IsDeadhead, IsUnitChain, Places, deadheads, following, move_of, moves_of, places_of}
use Rattle.dh_chains.specs.Chains.{with_deadheads}
use Rattle.dh_chains.proofs.Effects.{deficit-append, falls}

-- a deadhead that arrives at one of the places on the day is a move
move-of : (places : Places) (m : Deadhead) → IsDeadhead places m → m.to < places.count → m.arrives ≤ 8191 → IsMove places.count (move_of m)
move-of places m is to in_day = record { from = is.from; to = to; forward = omega (arith, is.lasting, is.leaves); in_day = in_day }

moves-onward : (places : Places) (last : Deadhead) (rest : List Deadhead) → last.from < places.count → All (IsDeadhead places) rest
    → GoesOn places last rest → All (λ m. IsMove places.count (move_of m)) rest
moves-onward places last [] from deadheads goes = All-nil (λ (m : Deadhead). IsMove places.count (move_of m))
moves-onward places last (next ∷ rest) from deadheads goes =
    let is = All-head (IsDeadhead places) next rest deadheads in
    All-cons (λ (m : Deadhead). IsMove places.count (move_of m)) next rest
    (move-of places next is (omega (arith, goes.0, from)) goes.1.within)
    (moves-onward places next rest is.from (All-tail (IsDeadhead places) next rest deadheads) goes.2)

moves-of : (places : Places) (first : Deadhead) (rest : List Deadhead) → IsUnitChain places first rest
    → All (λ m. IsMove places.count (move_of m)) (first ∷ rest)
moves-of places first rest chain =
    let is = All-head (IsDeadhead places) first rest chain.deadheads in
    let maximum = IsFirstMaximum-first_maximum (places.deficit first.to) in
    All-cons (λ (m : Deadhead). IsMove places.count (move_of m)) first rest
    (move-of places first is chain.target (omega (arith, chain.in_time, maximum.within)))
    (moves-onward places first rest is.from (All-tail (IsDeadhead places) first rest chain.deadheads) chain.goes_on)

pub moves-of-chain : (deficits : List (List ℤ)) (chain : Chain) → IsChainOf deficits chain
    → All (λ m. IsMove (length deficits) (move_of m)) (deadheads chain)
moves-of-chain deficits chain is =
    subst (λ n. All (λ m. IsMove n (move_of m)) (deadheads chain)) (sym is.places)
    (moves-of (places_of deficits is.matrix) chain.first (following chain.second chain.third) is.unit)

-- the second deadhead and the third are among those of the chain
pub second-is : (P : Deadhead → Type 0) (chain : Chain) (m : Deadhead) → chain.second ≡ Some m → All P (deadheads chain) → P m
second-is P chain m some all =
    first-of chain.third (subst (λ (o : Option Deadhead). All P (following o chain.third)) some
    (All-tail P chain.first (following chain.second chain.third) all))
  where
    first-of : (third : Option Deadhead) → All P (following (Some m) third) → P m
    first-of None all = All-head P m [] all
    first-of (Some n) all = All-head P m (n ∷ []) all

-- a change of few moves has room for one more, either way
pub below-most : (change : ℤ) (n : ℕ) → n < 65536 → (neg_ℤ (pos n) ≤ℤ change) × (change ≤ℤ pos n) → change <ℤ pos 65536
below-most change n few bound = omega (arith, ints, bound.1)

pub above-least : (change : ℤ) (n : ℕ) → n < 65536 → (neg_ℤ (pos n) ≤ℤ change) × (change ≤ℤ pos n) → negsuc 65535 <ℤ change
above-least change n few bound = omega (arith, ints, bound.0)

-- the sum of the maxima of what holds a chain besides is less by one
pub total-falls : (d e : List (List ℤ)) (chain : Chain) (moves : List Move) → IsDeficits d → IsDeficits e → length e ≡ length d
    → IsChainOf d chain → Holds d moves → Holds e (moves ++ moves_of (deadheads chain))
    → (sum_of_maxima (value e) (length e) +ℤ pos 1) ≡ sum_of_maxima (value d) (length d)
total-falls d e chain moves valid valid' same is held held' =
    let places = places_of d is.matrix in
    let agree : sum_of_maxima (value e) (length d) ≡ sum_of_maxima (with_deadheads (value d) (deadheads chain)) (length d) =
    sum_of_maxima-agree (value e) (with_deadheads (value d) (deadheads chain)) (length d)
    (λ k t there h. let there' : k < length e = omega arith in
    value-held e (moves ++ moves_of (deadheads chain)) k (valid'.changes k [] there') held' there' t h
    ∙ deficit-append moves (moves_of (deadheads chain)) k t
    ∙ ap (λ z. z +ℤ deficit (moves_of (deadheads chain)) k t) (sym (value-held d moves k (valid.changes k [] there) held there t h))) in
    (λ i. sum_of_maxima (value e) (same i) +ℤ pos 1) ∙ ap (λ z. z +ℤ pos 1) agree
    ∙ (λ i. sum_of_maxima (with_deadheads (value d) (deadheads chain)) (is.places i) +ℤ pos 1)
    ∙ falls places chain.first (following chain.second chain.third) is.unit
    ∙ ap (sum_of_maxima (value d)) (sym is.places)
