-- The changes of deficits: for each place the number by which its deficit rises or falls in each minute.
use Rattle.std.specs.Prelude.{◌≡◌, ℕ, ◌+◌, ◌^◌, ◌<◌, List, [], length, slice_index_or, slice_set, take, fold, All, ℤ, pos, neg_ℤ, ◌+ℤ◌}
use Rattle.std.specs.Prelude.{◌≤ℤ◌}
use Rattle.terminal_maxima.specs.declared.max_prefix.TheConstants.{MOST_CHANGE}
use Rattle.trip_model.specs.declared.limits.TheConstants.{MINUTES}
use Rattle.trip_model.specs.declared.trip.Move.{Move}

-- a change of at most 65,536 either way
abbrev pub IsChange : ℤ → Type 0
IsChange c = (neg_ℤ (pos MOST_CHANGE) ≤ℤ c) × (c ≤ℤ pos MOST_CHANGE)

-- the changes of one place: one for each minute from 0 to 8,191, and that of minute 0 is not below 0
pub record AreChanges (changes : List ℤ) : Type 0 where
  pub minutes : length changes ≡ MINUTES
  pub bounded : All IsChange changes
  pub begins : pos 0 ≤ℤ slice_index_or changes 0 (pos 0)

-- the changes of places that a u16 can number
pub record IsDeficits (deficits : List (List ℤ)) : Type 0 where
  pub places : length deficits < 2 ^ 16
  pub changes : All AreChanges deficits

-- the changes of a place
abbrev pub changes_of : List (List ℤ) → ℕ → List ℤ
changes_of deficits place = slice_index_or deficits place []

-- the change of a place at a minute
abbrev pub change_at : List (List ℤ) → ℕ → ℕ → ℤ
change_at deficits place minute = slice_index_or (changes_of deficits place) minute (pos 0)

-- the sum of the changes up to and including a minute
abbrev pub value_in : List ℤ → ℕ → ℤ
value_in changes minute = fold ◌+ℤ◌ (pos 0) (take (minute + 1) changes)

-- the value of a place at a minute
abbrev pub value : List (List ℤ) → ℕ → ℕ → ℤ
value deficits place = value_in (changes_of deficits place)

-- the changes of one place, with that of a minute raised by so much
abbrev pub with_change_in : List ℤ → ℕ → ℤ → List ℤ
with_change_in changes minute by = slice_set changes minute (slice_index_or changes minute (pos 0) +ℤ by)

-- the deficits, with the change of a place at a minute raised by so much, and all else as it was
unfoldable pub with_change : List (List ℤ) → ℕ → ℕ → ℤ → List (List ℤ)
with_change deficits place minute by = slice_set deficits place (with_change_in (changes_of deficits place) minute by)

-- the deficits, with one departure more where the move leaves and one arrival more where it arrives
abbrev pub with_move : List (List ℤ) → Move → List (List ℤ)
with_move deficits m = with_change (with_change deficits m.from m.leaves (pos 1)) m.to m.arrives (neg_ℤ (pos 1))

-- the deficits, with one departure less where the move leaves and one arrival less where it arrives
abbrev pub without_move : List (List ℤ) → Move → List (List ℤ)
without_move deficits m = with_change (with_change deficits m.from m.leaves (neg_ℤ (pos 1))) m.to m.arrives (pos 1)
