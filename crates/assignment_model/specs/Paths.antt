-- Along which slots the repair of a plan may change its links. Old and new are lists of next trips.
use Rattle.std.specs.Prelude.{◌≡◌, ◌≢◌, ℕ, ◌<◌, ◌==◌, List, [], ◌∷◌, ◌++◌, length, map, slice_set, Option, None, Some, IsSome, IfSome, ⊤}
use Rattle.std.specs.Prelude.{if◌then◌else◌}
use Rattle.std.specs.List.{range_with_len, AllByRecursion}
use Rattle.trip_model.specs.Links.{next_of, before_of, AreApart}

-- next trips are slots of the list, and no trip is the next of two
pub record AreNextTrips (links : List (Option ℕ)) : Type 0 where
  pub within : (i j : ℕ) → next_of links i ≡ Some j → j < length links
  pub once : AreApart links

-- two lists of next trips of the same slots
pub record AreAlike (old new : List (Option ℕ)) : Type 0 where
  pub before : AreNextTrips old
  pub after : AreNextTrips new
  pub slots : length new ≡ length old

-- the inverse list: for each slot the trip before it
abbrev pub befores : List (Option ℕ) → List (Option ℕ)
befores links = map (before_of links) (range_with_len 0 (length links))

-- the slot is none of these
abbrev pub IsNoneOf : List ℕ → ℕ → Type 0
IsNoneOf slots s = AllByRecursion (λ r. r ≢ s) slots

-- no slot comes twice
abbrev pub NoneTwice : List ℕ → Type 0
NoneTwice [] = ⊤
NoneTwice (s ∷ slots) = IsNoneOf slots s × NoneTwice slots

-- `had s` is what the slot s had, `had_by t` the slot that had t, and `given s` what s has then. From s along a path each
-- slot is given what the one after it had; the last is given nothing, or what none had.
abbrev pub IsPassedOn : (had had_by given : ℕ → Option ℕ) → ℕ → List ℕ → Type 0
IsPassedOn had had_by given s [] = IfSome (given s) (λ t. had_by t ≡ None)
IsPassedOn had had_by given s (r ∷ path) = (given s ≡ had r) × IsSome (had r) × IsPassedOn had had_by given r path

-- word: search; path = shortest augmenting path
-- there is a path of distinct slots from a on along which this is passed on, and every other slot has what it had
pub record IsPath (had had_by given : ℕ → Option ℕ) (a : ℕ) : Type 0 where
  pub path : List ℕ
  pub distinct : NoneTwice (a ∷ path)
  pub passed : IsPassedOn had had_by given a path
  pub others : (s : ℕ) → IsNoneOf (a ∷ path) s → given s ≡ had s

-- along a path from a on, slots pass on their next trips
pub record IsLeftPath (old new : List (Option ℕ)) (a : ℕ) : Type 0 where
  pub lists : AreAlike old new
  pub slot : a < length old
  pub path : IsPath (next_of old) (before_of old) (next_of new) a

-- along a path from b on, slots pass on the trips before them
pub record IsRightPath (old new : List (Option ℕ)) (b : ℕ) : Type 0 where
  pub lists : AreAlike old new
  pub slot : b < length old
  pub path : IsPath (before_of old) (next_of old) (before_of new) b

-- a left path from the slot, where there is one; else nothing changes
abbrev pub IsLeftFrom : List (Option ℕ) → List (Option ℕ) → Option ℕ → Type 0
IsLeftFrom old new None = new ≡ old
IsLeftFrom old new (Some a) = IsLeftPath old new a

-- a right path from the slot, where there is one; else nothing changes
abbrev pub IsRightFrom : List (Option ℕ) → List (Option ℕ) → Option ℕ → Type 0
IsRightFrom old new None = new ≡ old
IsRightFrom old new (Some b) = IsRightPath old new b

-- the links without that from the slot, where there is one
abbrev pub without_link : List (Option ℕ) → Option ℕ → List (Option ℕ)
without_link links None = links
without_link links (Some i) = slice_set links i None

-- the links without those out of s and into s
abbrev pub cut_at : List (Option ℕ) → ℕ → List (Option ℕ)
cut_at links s = without_link (slice_set links s None) (before_of links s)

-- The trip of s is taken. Its links are cut. A left path begins with the trip that was before it, and then a right path with
-- its next one.
pub record IsTaken (old new : List (Option ℕ)) (s : ℕ) : Type 0 where
  pub lists : AreAlike old new
  pub mid : List (Option ℕ)
  pub left : IsLeftFrom (cut_at old s) mid (before_of old s)
  pub right : IsRightFrom mid new (next_of old s)

-- the links with one more slot, which has no next trip, where s is the first that they lack
abbrev pub with_slot : List (Option ℕ) → ℕ → List (Option ℕ)
with_slot links s = if length links == s then links ++ None ∷ [] else links

-- no link leads out of s or into s
abbrev pub IsAlone : List (Option ℕ) → ℕ → Type 0
IsAlone links s = (next_of links s ≡ None) × (before_of links s ≡ None)

-- A trip is added in s, which may be a new slot at the end and has no links. A left path begins with it, and then a right path.
pub record IsAdded (old new : List (Option ℕ)) (s : ℕ) : Type 0 where
  pub alone : IsAlone (with_slot old s) s
  pub mid : List (Option ℕ)
  pub left : IsLeftPath (with_slot old s) mid s
  pub right : IsRightPath mid new s
