-- The chains of deadheads with which the sum of the maxima of the deficits is smaller by one, and the first of them.
use Rattle.std.specs.Prelude.{◌≡◌, ◌≢◌, ◌⊎◌, ⊤, ℕ, ◌+◌, ◌<◌, ◌≤◌, List, [], ◌∷◌, length, map, All, AllPairs, Option, None, Some, ℤ, pos}
use Rattle.std.specs.Prelude.{◌+ℤ◌, ◌<ℤ◌}
use Rattle.trip_model.specs.Deficit.{deficit}
use Rattle.trip_model.specs.Maximum.{first_maximum}
use Rattle.trip_model.specs.declared.trip.Move.{Move}
use Rattle.deadhead_matrix.specs.Matrix.{MatrixView, walk}
use Rattle.deficit_steps.specs.Changes.{value}
use Rattle.deficit_steps.specs.NextMaximum.{IsNextMaximum, NoNextMaximum}
use Rattle.dh_chains.specs.declared.chain.Chain.{Chain}
use Rattle.dh_chains.specs.declared.chain.Deadhead.{Deadhead}

-- what chains are looked for in: the number of places, the deficit of each at each minute, and the least walks between them
pub record Places : Type 0 where
  pub count : ℕ
  pub deficit : ℕ → ℕ → ℤ
  pub walk : ℕ → ℕ → Option ℕ

-- the places of a matrix with these deficits
abbrev pub places_with : (ℕ → ℕ → ℤ) → MatrixView → Places
places_with d matrix = record { count = length matrix.walks; deficit = d; walk = walk matrix }

-- the places of a matrix with the deficits that are kept
abbrev pub places_of : List (List ℤ) → MatrixView → Places
places_of deficits matrix = places_with (value deficits) matrix

-- a vehicle runs empty from one of the places along a least walk, and leaves not before minute 0. The walk takes time, as each
-- does but that of a place to itself
pub record IsDeadhead (places : Places) (m : Deadhead) : Type 0 where
  pub from : m.from < places.count
  pub minutes : ℕ
  pub walk : places.walk m.from m.to ≡ Some minutes
  pub lasting : 0 < minutes
  pub leaves : m.leaves + minutes ≡ m.arrives

-- How a chain goes on behind a deadhead. The next one arrives at the place that it leaves, at the first minute from then on
-- at which the place is at its maximum. Where there is no such minute, none follows.
abbrev pub GoesOn : Places → Deadhead → List Deadhead → Type 0
GoesOn places last [] = NoNextMaximum (places.deficit last.from) last.leaves
GoesOn places last (next ∷ rest) = (next.to ≡ last.from) × IsNextMaximum (places.deficit last.from) last.leaves next.arrives
    × GoesOn places next rest

-- the places that deadheads leave
abbrev pub left : List Deadhead → List ℕ
left ms = map (λ (m : Deadhead). m.from) ms

-- the places of a chain: where its first deadhead arrives, and then those that its deadheads leave
abbrev pub route : Deadhead → List Deadhead → List ℕ
route first rest = first.to ∷ left (first ∷ rest)

-- rule: which deadheads are a chain
-- word: chain = unit reduction deadheading chain
-- one to three deadheads between distinct places. The first arrives at a place with a maximum of at least 1, at the first
-- minute of that maximum
pub record IsUnitChain (places : Places) (first : Deadhead) (rest : List Deadhead) : Type 0 where
  pub few : length rest ≤ 2
  pub deadheads : All (IsDeadhead places) (first ∷ rest)
  pub distinct : AllPairs (λ p q. p ≢ q) (route first rest)
  pub target : first.to < places.count
  pub wanting : pos 0 <ℤ (first_maximum (places.deficit first.to)).0
  pub in_time : first.arrives ≡ (first_maximum (places.deficit first.to)).1
  pub goes_on : GoesOn places first rest

-- of two lists of places the one comes first that has the lesser place where they differ first, or that ends there
abbrev pub IsBefore : List ℕ → List ℕ → Type 0
IsBefore ps [] = ⊥
IsBefore [] (q ∷ qs) = ⊤
IsBefore (p ∷ ps) (q ∷ qs) = (p < q) ⊎ ((p ≡ q) × IsBefore ps qs)

-- rule: the order of chains
-- the chain is such a one, and no other one comes before it in the order of their places
pub record IsFirstChain (places : Places) (first : Deadhead) (rest : List Deadhead) : Type 0 where
  pub chain : IsUnitChain places first rest
  pub least : (m : Deadhead) (ms : List Deadhead) → IsUnitChain places m ms → IsBefore (route m ms) (route first rest) → ⊥

-- there is no such chain
abbrev pub NoChain : Places → Type 0
NoChain places = (first : Deadhead) (rest : List Deadhead) → IsUnitChain places first rest → ⊥

-- the second deadhead, where there is one, and then the third
abbrev pub following : Option Deadhead → Option Deadhead → List Deadhead
following None third = []
following (Some second) None = second ∷ []
following (Some second) (Some third) = second ∷ third ∷ []

-- the deadheads of a chain, in order
abbrev pub deadheads : Chain → List Deadhead
deadheads chain = chain.first ∷ following chain.second chain.third

-- a chain of the deficits that are kept, along the least walks of some matrix
pub record IsChainOf (deficits : List (List ℤ)) (chain : Chain) : Type 0 where
  pub matrix : MatrixView
  pub places : length deficits ≡ length matrix.walks
  pub unit : IsUnitChain (places_of deficits matrix) chain.first (following chain.second chain.third)

-- the move of a vehicle that makes a deadhead
abbrev pub move_of : Deadhead → Move
move_of m = record { from = m.from; to = m.to; leaves = m.leaves; arrives = m.arrives }

-- the moves of vehicles that make deadheads
abbrev pub moves_of : List Deadhead → List Move
moves_of ms = map move_of ms

-- the deficits with deadheads as moves besides
abbrev pub with_deadheads : (ℕ → ℕ → ℤ) → List Deadhead → ℕ → ℕ → ℤ
with_deadheads d ms place minute = d place minute +ℤ deficit (moves_of ms) place minute
