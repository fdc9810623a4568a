-- The way back along which rows are linked anew where a search has ended, and the shift of prices before it.
use Rattle.std.specs.Prelude.{◌≡◌, ◌≢◌, ℕ, ◌+◌, ◌-◌, ◌<◌, ◌≤◌, Bool, true, false, List, [], ◌∷◌, length, Option, None, Some, IsSome, IfSome}
use Rattle.std.specs.List.{AllByRecursion}
use Rattle.assignment_model.specs.Paths.{IsNoneOf, NoneTwice, IsPassedOn}
use Rattle.assignment_model.specs.Prices.{price}
use Rattle.trip_model.specs.Links.{next_of, before_of, AreApart}
use Rattle.pair_search.specs.Search.{at}

-- what a row loses that is linked to a column, as prices fall so far
abbrev pub lost : List ℕ → ℕ → Option ℕ → ℕ
lost dist fall None = 0
lost dist fall (Some j) = fall - at dist j

-- as prices fall so far, columns that were reached sooner gain the difference, and rows that are linked to them lose it
pub record IsShifted (n a : ℕ) (next : List (Option ℕ)) (dist : List ℕ) (fall : ℕ) (leave enter leave' enter' : List ℕ) : Type 0 where
  pub root : price leave' a ≡ price leave a - fall
  pub rows : (i : ℕ) → i ≢ a → price leave' i ≡ price leave i - lost dist fall (next_of next i)
  pub columns : (j : ℕ) → j < n → price enter' j ≡ price enter j + (fall - at dist j)

-- Prices fall so far along the rows of a tree, which has so many. They are distinct, and none is farther. The first is linked to
-- none, and each other to a column that is as far as the row. Each column that is nearer than prices fall has one of them linked
-- to it.
pub record IsAlong (next : List (Option ℕ)) (dist far rows : List ℕ) (size fall : ℕ) : Type 0 where
  pub root : (0 < size) × (next_of next (at rows 0) ≡ None) × (at far 0 ≡ 0)
  pub within : (t : ℕ) → t < size → (at rows t < length next) × (at far t ≤ fall)
  pub apart : (r t : ℕ) → r < t → t < size → at rows r ≢ at rows t
  pub once : AreApart next
  pub via : (t : ℕ) → 0 < t → t < size → (j : ℕ) × (next_of next (at rows t) ≡ Some j) × (at dist j ≡ at far t)
  pub near : (j : ℕ) → j < length dist → at dist j < fall → (t : ℕ) × (t < size) × (next_of next (at rows t) ≡ Some j)

-- from the row at each place of the tree up to this one the column that it is linked to leads to a place before
pub record LeadsBack (next : List (Option ℕ)) (parent rows : List ℕ) (top : ℕ) : Type 0 where
  pub inside : top < length rows
  pub root : next_of next (at rows 0) ≡ None
  pub linked : (t : ℕ) → 0 < t → t ≤ top → IsSome (next_of next (at rows t))
  pub back : (t j : ℕ) → t ≤ top → next_of next (at rows t) ≡ Some j → (j < length parent) × (at parent j < t)
  pub apart : (r t : ℕ) → r < t → t ≤ top → at rows r ≢ at rows t
  pub within : (t : ℕ) → t ≤ top → at rows t < length next

-- the rows at these places are not left out. Each column of the way back has the weight of the row that it leads to
pub record IsTightBack (w : ℕ → ℕ → Option ℕ) (out : ℕ → Bool) (next : List (Option ℕ)) (leave enter : List ℕ) (parent rows : List ℕ)
    (top : ℕ) : Type 0 where
  pub inside : (t : ℕ) → t ≤ top → out (at rows t) ≡ false
  pub tight : (t j : ℕ) → t ≤ top → next_of next (at rows t) ≡ Some j
      → w (at rows (at parent j)) j ≡ Some (price leave (at rows (at parent j)) + price enter j)

-- Links that are matched but for a row. It is to be linked to a column that is linked to none. Or it is to be linked to none,
-- and then it has no price.
pub record IsPassing (w : ℕ → ℕ → Option ℕ) (out : ℕ → Bool) (a : ℕ) (b : Option ℕ) (next : List (Option ℕ)) (leave enter : List ℕ)
    (row : ℕ) (to : Option ℕ) : Type 0 where
  pub once : AreApart next
  pub tight : (i j : ℕ) → next_of next i ≡ Some j → w i j ≡ Some (price leave i + price enter j)
  pub left : (i : ℕ) → out i ≡ true → next_of next i ≡ None
  pub last : (i j : ℕ) → b ≡ Some j → w i j ≡ None
  pub leave_zero : (i : ℕ) → i ≢ a → next_of next i ≡ None → price leave i ≡ 0
  pub enter_zero : (j : ℕ) → b ≢ Some j → to ≢ Some j → ((i : ℕ) → next_of next i ≢ Some j) → price enter j ≡ 0
  pub alone : to ≡ None → price leave row ≡ 0
  pub column : (j : ℕ) → to ≡ Some j → (w row j ≡ Some (price leave row + price enter j)) × ((i : ℕ) → next_of next i ≢ Some j)

-- a slot before the path is given this: what the first of the path had. Where there is no path, it is nothing, or what none had
abbrev pub IsPassedTo : (had had_by given : ℕ → Option ℕ) → Option ℕ → List ℕ → Type 0
IsPassedTo had had_by given to [] = IfSome to (λ t. had_by t ≡ None)
IsPassedTo had had_by given to (r ∷ path) = (to ≡ had r) × IsSome (had r) × IsPassedOn had had_by given r path

-- the slot is in the rows after a place, up to another
pub record IsRowAfter (rows : List ℕ) (t top slot : ℕ) : Type 0 where
  pub place : ℕ
  pub after : t < place
  pub upto : place ≤ top
  pub is : at rows place ≡ slot

-- links so far, on the way back to a place of the tree whose row is given this: a path of rows after that place
pub record IsRelinked (old new : List (Option ℕ)) (rows : List ℕ) (top t : ℕ) (to : Option ℕ) : Type 0 where
  pub path : List ℕ
  pub distinct : NoneTwice path
  pub after : AllByRecursion (IsRowAfter rows t top) path
  pub passed : IsPassedTo (next_of old) (before_of old) (next_of new) to path
  pub others : (s : ℕ) → IsNoneOf path s → next_of new s ≡ next_of old s
