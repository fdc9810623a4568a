-- What is known while a chain is looked for, deadhead by deadhead.
use Rattle.std.specs.Prelude.{◌≡◌, ℕ, ◌<◌, ◌≤◌, List, [], ◌∷◌, length, Contains, Option, None, Some}
use Rattle.deficit_steps.specs.NextMaximum.{IsNextMaximum, NoNextMaximum}
use Rattle.dh_chains.specs.Chains.{Places, IsBefore, IsDeadhead, IsUnitChain, left, route}
use Rattle.dh_chains.specs.declared.chain.Deadhead.{Deadhead}

-- a deadhead that arrives at a place at a minute, from a place that the chain does not have yet
pub record IsNext (places : Places) (had : List ℕ) (to arrives : ℕ) (m : Deadhead) : Type 0 where
  pub deadhead : IsDeadhead places m
  pub into : m.to ≡ to
  pub on_time : m.arrives ≡ arrives
  pub fresh : Contains had m.from → ⊥

-- how a chain that has these places goes on behind a deadhead
abbrev pub IsTail : Places → List ℕ → Deadhead → List Deadhead → Type 0
IsTail places had last [] = NoNextMaximum (places.deficit last.from) last.leaves
IsTail places had last (next ∷ rest) = IsNextMaximum (places.deficit last.from) last.leaves next.arrives
    × IsNext places had last.from next.arrives next × IsTail places (next.from ∷ had) next rest

-- it goes on so with no more than these deadheads, and in no way that comes before
pub record IsFirstTail (places : Places) (most : ℕ) (had : List ℕ) (last : Deadhead) (rest : List Deadhead) : Type 0 where
  pub few : length rest ≤ most
  pub tail : IsTail places had last rest
  pub least : (other : List Deadhead) → length other ≤ most → IsTail places had last other → IsBefore (left other) (left rest) → ⊥

-- it goes on in no way
abbrev pub NoTail : Places → ℕ → List ℕ → Deadhead → Type 0
NoTail places most had last = (other : List Deadhead) → length other ≤ most → IsTail places had last other → ⊥

-- a next deadhead that arrives at a place at a minute, and how the chain goes on behind it
pub record IsBranch (places : Places) (had : List ℕ) (to arrives : ℕ) (next : Deadhead) (rest : List Deadhead) : Type 0 where
  pub arriving : IsNext places had to arrives next
  pub tail : IsTail places (next.from ∷ had) next rest

-- with no more than so many deadheads behind the next one, none leaves a place below a number
abbrev pub NoBranchBelow : Places → ℕ → List ℕ → ℕ → ℕ → ℕ → Type 0
NoBranchBelow places most had to arrives from =
    (next : Deadhead) (rest : List Deadhead) → next.from < from → length rest ≤ most → IsBranch places had to arrives next rest → ⊥

-- with no more than so many deadheads behind the next one, there is none
abbrev pub NoBranch : Places → ℕ → List ℕ → ℕ → ℕ → Type 0
NoBranch places most had to arrives =
    (next : Deadhead) (rest : List Deadhead) → length rest ≤ most → IsBranch places had to arrives next rest → ⊥

-- the first with no more than so many deadheads behind the next one
pub record IsFirstBranch (places : Places) (most : ℕ) (had : List ℕ) (to arrives : ℕ) (next : Deadhead)
    (rest : List Deadhead) : Type 0 where
  pub few : length rest ≤ most
  pub branch : IsBranch places had to arrives next rest
  pub least : (m : Deadhead) (ms : List Deadhead) → length ms ≤ most → IsBranch places had to arrives m ms
      → IsBefore (left (m ∷ ms)) (left (next ∷ rest)) → ⊥

-- the deadhead, where there is one
abbrev pub listed : Option Deadhead → List Deadhead
listed None = []
listed (Some m) = m ∷ []

-- a chain to a place, before which none to the same place comes
pub record IsFirstChainTo (places : Places) (target : ℕ) (first : Deadhead) (rest : List Deadhead) : Type 0 where
  pub to : first.to ≡ target
  pub chain : IsUnitChain places first rest
  pub least : (m : Deadhead) (ms : List Deadhead) → m.to ≡ target → IsUnitChain places m ms → IsBefore (route m ms) (route first rest) → ⊥

-- no chain leads to a place
abbrev pub NoChainTo : Places → ℕ → Type 0
NoChainTo places target = (first : Deadhead) (rest : List Deadhead) → first.to ≡ target → IsUnitChain places first rest → ⊥
