-- Walks of a vehicle that runs empty, from place to place.
use Rattle.std.specs.Prelude.{◌≡◌, ℕ, ◌≤◌, List, [], ◌∷◌, sum_by, Contains, Option, None, Some}
use Rattle.deadhead_matrix.specs.declared.entry.Entry.{Entry}

-- word: walk = path of deadheads
-- the entries lead from a to b, each beginning where the one before ends; the empty list leads from a place to itself
abbrev pub IsWalk : List Entry → ℕ → List Entry → ℕ → Type 0
IsWalk entries a [] b = a ≡ b
IsWalk entries a (e ∷ es) b = Contains entries e × (e.from ≡ a) × IsWalk entries e.to es b

-- the minutes of a walk
abbrev pub walk_minutes : List Entry → ℕ
walk_minutes es = sum_by (λ e. e.minutes) es

-- some walk from a to b has so many minutes, and none has fewer
pub record IsLeastTotal (entries : List Entry) (a b m : ℕ) : Type 0 where
  pub reached : (es : List Entry) × IsWalk entries a es b × (walk_minutes es ≡ m)
  pub least : (es : List Entry) → IsWalk entries a es b → m ≤ walk_minutes es

-- rule: the least deadhead minutes between two places
-- the minutes of a least walk from a to b, or None where there is no walk
abbrev pub IsLeastWalk : List Entry → ℕ → ℕ → Option ℕ → Type 0
IsLeastWalk entries a b None = (es : List Entry) → IsWalk entries a es b → ⊥
IsLeastWalk entries a b (Some m) = IsLeastTotal entries a b m
