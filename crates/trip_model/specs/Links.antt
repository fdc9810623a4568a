-- Links: for each slot the trip that its vehicle makes next; and the blocks that they make.
use Rattle.std.specs.Prelude.{◌≡◌, ℕ, zero, suc, ◌==◌, Bool, false, not, List, [], ◌∷◌, map, filter, count_by, position, slice_index_or}
use Rattle.std.specs.Prelude.{Option, None, Some, is_some}
use Rattle.std.specs.List.{list_any}
use Rattle.trip_model.specs.declared.limits.TheConstants.{MINUTES}
use Rattle.trip_model.specs.Network.{Network, Fits}

-- the next trip of a slot; none past the last slot
abbrev pub next_of : List (Option ℕ) → ℕ → Option ℕ
next_of links s = slice_index_or links s None

-- no trip is the next of two
abbrev pub AreApart : List (Option ℕ) → Type 0
AreApart links = (h i j : ℕ) → next_of links h ≡ Some j → next_of links i ≡ Some j → h ≡ i

-- word: links = assignment
-- a vehicle can go on along each link, and no trip is the next of two
pub record AreLinks (network : Network) (links : List (Option ℕ)) : Type 0 where
  pub fits : (i j : ℕ) → next_of links i ≡ Some j → Fits network i j
  pub once : AreApart links

-- how many links there are
abbrev pub link_count : List (Option ℕ) → ℕ
link_count links = count_by is_some links

-- a link leads to s
abbrev pub leads_to : ℕ → Option ℕ → Bool
leads_to s None = false
leads_to s (Some j) = j == s

-- the trip before that of s: the first slot whose next trip is that of s
abbrev pub before_of : List (Option ℕ) → ℕ → Option ℕ
before_of links s = position (leads_to s) links

-- the trip of s is the next of none
abbrev pub is_first : List (Option ℕ) → ℕ → Bool
is_first links s = not (list_any (leads_to s) links)

-- the slot, where there is one, and those to which the links lead from it, one after the other, so many at most
abbrev pub along : List (Option ℕ) → ℕ → Option ℕ → List ℕ
along links zero at = []
along links (suc most) None = []
along links (suc most) (Some s) = s ∷ along links most (next_of links s)

-- the block that begins with s; departures rise along links, so it has no more trips than there are minutes
unfoldable pub block_from : List (Option ℕ) → ℕ → List ℕ
block_from links s = along links MINUTES (Some s)

-- rule: the blocks of a plan
-- the blocks that the links make, in the order given for their first trips
abbrev pub blocks_along : List (Option ℕ) → List ℕ → List (List ℕ)
blocks_along links order = map (block_from links) (filter (is_first links) order)
