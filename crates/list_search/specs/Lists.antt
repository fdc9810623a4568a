-- The pairs that rows list, with their values.
use Rattle.std.specs.Prelude.{ℕ, ◌+◌, ◌-◌, ◌<◌, ◌≤◌, ◌==◌, List, [], ◌∷◌, take, drop, slice_index_or, Option, None, Some, if◌then◌else◌}
use Rattle.pair_search.specs.declared.limits.TheConstants.{GREATEST_PRICE}
use Rattle.list_search.specs.declared.lists.Pair.{Pair}

-- between how many columns pairs are listed, what each row lists, and what the row that is open lists so far
pub record ListsView : Type 0 where
  pub slots : ℕ
  pub rows : List (List Pair)
  pub begun : List Pair

-- no row is listed
abbrev pub no_rows : ℕ → ListsView
no_rows slots = record { slots = slots; rows = []; begun = [] }

-- what a row lists; nothing past the last row
abbrev pub row_at : ListsView → ℕ → List Pair
row_at lists i = slice_index_or lists.rows i []

-- the value of a column among pairs; None where they lack it
abbrev pub value_of : List Pair → ℕ → Option ℕ
value_of [] j = None
value_of (p ∷ pairs) j = if p.column == j then Some p.value else value_of pairs j

-- the value of a row and a column; None where the row does not list it
abbrev pub listed : ListsView → ℕ → ℕ → Option ℕ
listed lists i j = value_of (row_at lists i) j

-- pairs stand in rising order of their columns, from one column on, and these are among so many. No value is above the greatest
abbrev pub IsRowFrom : ℕ → ℕ → List Pair → Type 0
IsRowFrom slots from [] = Unit {0}
IsRowFrom slots from (p ∷ pairs) =
    (from ≤ p.column) × (p.column < slots) × (p.value ≤ GREATEST_PRICE) × IsRowFrom slots (p.column + 1) pairs

-- what a row may list
abbrev pub IsRow : ℕ → List Pair → Type 0
IsRow slots pairs = IsRowFrom slots 0 pairs

-- the first column behind those of pairs in rising order
abbrev pub behind : ℕ → List Pair → ℕ
behind from [] = from
behind from (p ∷ pairs) = behind (p.column + 1) pairs

-- the pairs of rows that stand one behind the other, from where the first begins and each ends
abbrev pub rows_cut : ℕ → List ℕ → List Pair → List (List Pair)
rows_cut from [] pairs = []
rows_cut from (end ∷ ends) pairs = take (end - from) (drop from pairs) ∷ rows_cut end ends pairs

-- where the last of them ends
abbrev pub cut_end : ℕ → List ℕ → ℕ
cut_end from [] = from
cut_end from (end ∷ ends) = cut_end end ends

-- each ends where it begins or after that, and the last among so many pairs
abbrev pub IsCut : ℕ → List ℕ → ℕ → Type 0
IsCut from [] many = from ≤ many
IsCut from (end ∷ ends) many = (from ≤ end) × IsCut end ends many
