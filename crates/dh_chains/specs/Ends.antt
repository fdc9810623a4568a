-- From when on deadheads have to leave a place if their chain is to end, so that none need be looked for behind earlier ones.
use Rattle.std.specs.Prelude.{◌≡◌, ◌≢◌, ◌⊎◌, ℕ, suc, ◌<◌, ◌≤◌, List, length, slice_index, Contains, ℤ}
use Rattle.trip_model.specs.declared.limits.TheConstants.{LAST_MINUTE}
use Rattle.trip_model.specs.Maximum.{first_maximum}
use Rattle.dh_chains.specs.Chains.{IsDeadhead, Places}
use Rattle.dh_chains.specs.Search.{IsTail, NoTail}
use Rattle.dh_chains.specs.declared.chain.Deadhead.{Deadhead}

-- behind a deadhead that leaves a place before a minute, a chain has no end with at most so many more
abbrev pub EndsFrom : Places → ℕ → ℕ → ℕ → Type 0
EndsFrom places most place minute = (m : Deadhead) (had : List ℕ) → m.from ≡ place → m.leaves < minute → Contains had place
    → NoTail places most had m

-- such minutes for all places
abbrev pub AreEarliest : Places → ℕ → List ℕ → Type 0
AreEarliest places most minutes = (place : ℕ) → place < places.count → EndsFrom places most place (slice_index minutes place)

-- a deadhead from another place with which a chain goes on to its end, by at most so many deadheads with this one
pub record IsOnward (places : Places) (most : ℕ) (m : Deadhead) : Type 0 where
  pub deadhead : IsDeadhead places m
  pub to : m.to < places.count
  pub apart : m.from ≢ m.to
  pub had : List ℕ
  pub has : Contains had m.from
  pub rest : List Deadhead
  pub few : suc (length rest) ≤ most
  pub tail : IsTail places had m rest

-- the deadheads from the places below one, and those from this one to the places below another
abbrev pub IsPassed : ℕ → ℕ → Deadhead → Type 0
IsPassed from to m = (m.from < from) ⊎ ((m.from ≡ from) × (m.to < to))

-- of these, none with which a chain goes on to its end arrives before the minute of the place where it arrives
abbrev pub PassedArriveFrom : Places → ℕ → List ℕ → ℕ → ℕ → Type 0
PassedArriveFrom places most minutes from to = (m : Deadhead) → IsPassed from to m → IsOnward places most m
    → slice_index minutes m.to ≤ m.arrives

-- none with which a chain goes on to its end arrives before the minute of the place where it arrives
abbrev pub ArriveFrom : Places → ℕ → List ℕ → Type 0
ArriveFrom places most minutes = (m : Deadhead) → IsOnward places most m → slice_index minutes m.to ≤ m.arrives

-- minutes before which no deadhead leaves the places below one, and before which none arrives at the others
pub record AreEarliestBelow (places : Places) (most : ℕ) (minutes : List ℕ) (upto : ℕ) : Type 0 where
  pub below : (place : ℕ) → place < upto → place < places.count → EndsFrom places most place (slice_index minutes place)
  pub above : (m : Deadhead) → upto ≤ m.to → IsOnward places most m → slice_index minutes m.to ≤ m.arrives

-- a minute from one on and before another at which d has its greatest value
pub record IsMaximumBetween (d : ℕ → ℤ) (from before : ℕ) : Type 0 where
  pub at : ℕ
  pub not_before : from ≤ at
  pub within : at < before
  pub in_day : at ≤ LAST_MINUTE
  pub reached : d at ≡ (first_maximum d).0
