-- A search from the other side, over the inverse of links.
use Rattle.std.specs.Prelude.{ℕ, false, List, length, Option, None}
use Rattle.assignment_model.specs.Paths.{IsPath}
use Rattle.trip_model.specs.Links.{next_of, before_of}
use Rattle.pair_search.specs.Assignment.{IsMatched, Covers, MayBegin}
use Rattle.pair_search.specs.Inverse.{IsInverse}

-- a search may begin at b over the inverse of links
abbrev pub MayBeginTurned : (ℕ → ℕ → Option ℕ) → ℕ → ℕ → Option ℕ → List (Option ℕ) → List ℕ → List ℕ → Type 0
MayBeginTurned w n b a links leave enter = (was : List (Option ℕ)) → IsInverse (length links) links was
    → MayBegin w n (λ _. false) b a was enter leave

-- from the inverse of old links it has led along a path from b to a list whose inverse the new ones are
pub record IsFoundTurned (w : ℕ → ℕ → Option ℕ) (b : ℕ) (a : Option ℕ) (old new : List (Option ℕ)) (leave enter : List ℕ) : Type 0 where
  pub was : List (Option ℕ)
  pub now : List (Option ℕ)
  pub inverse_was : IsInverse (length old) old was
  pub inverse_now : IsInverse (length now) now new
  pub path : IsPath (next_of was) (before_of was) (next_of now) b
  pub matched : IsMatched w (λ _. false) None a now enter leave
  pub covers : Covers w (λ _. false) None enter leave
