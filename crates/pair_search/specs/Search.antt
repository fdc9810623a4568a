-- The search from one row: a tree of rows, how far they and the columns are from it, and along which rows they were
-- reached.
use Rattle.std.specs.Prelude.{◌≡◌, ◌≢◌, ℕ, ◌+◌, ◌<◌, ◌≤◌, ◌⊎◌, Bool, true, false, not, List, length, count_by, Option, None, Some}
use Rattle.std.specs.Prelude.{slice_index_or}
use Rattle.pair_search.specs.declared.limits.TheConstants.{GREATEST_PRICE, FAR}
use Rattle.trip_model.specs.declared.limits.TheConstants.{MOST_SLOTS}
use Rattle.trip_model.specs.Links.{next_of, AreApart}
use Rattle.pair_search.specs.declared.grow.End.{End}
use Rattle.pair_search.specs.declared.tree.Tree.{Tree}
use Rattle.pair_search.specs.Assignment.{AreWeights}
use Rattle.pair_search.specs.Side.{SideView, side_slots, place_weight}

-- a number of a list; 0 past its end
abbrev pub at : List ℕ → ℕ → ℕ
at xs i = slice_index_or xs i 0

-- whether a column is done: the row that is linked to it is in the tree
abbrev pub is_done : List Bool → ℕ → Bool
is_done done j = slice_index_or done j false

-- of the columns: how far they are, from which place of the tree they were reached, and which are done
pub record Columns : Type 0 where
  pub dist : List ℕ
  pub parent : List ℕ
  pub done : List Bool

abbrev pub as_columns : List ℕ → List ℕ → List Bool → Columns
as_columns dist parent done = record { dist = dist; parent = parent; done = done }

-- the columns of a tree
abbrev pub columns_of : Tree → Columns
columns_of tree = as_columns tree.dist.items tree.parent.items tree.done.items

-- the column was reached from a place of the tree. It is as far as that, plus the row's price and its own, less the weight
pub record IsReached (w : ℕ → Option ℕ) (from start : ℕ) (enter : List ℕ) (now : Columns) (j : ℕ) : Type 0 where
  pub undone : is_done now.done j ≡ false
  pub by : at now.parent j ≡ from
  pub weight : ℕ
  pub fits : w j ≡ Some weight
  pub exact : at now.dist j + weight ≡ start + at enter j

-- the columns below a number were looked at from a place of the tree. Each that is not done is no farther than before and than
-- by the row there. If it is nearer than before, it was reached from there
pub record AreLooked (w : ℕ → Option ℕ) (upto from start : ℕ) (enter : List ℕ) (was now : Columns) : Type 0 where
  pub done : now.done ≡ was.done
  pub covered : (j k : ℕ) → j < upto → is_done was.done j ≡ false → w j ≡ Some k → at now.dist j + k ≤ start + at enter j
  pub nearer : (j : ℕ) → at now.dist j ≤ at was.dist j
  pub same : (j : ℕ) → at was.dist j ≤ at now.dist j → at now.parent j ≡ at was.parent j
  pub reached : (j : ℕ) → at now.dist j < at was.dist j → IsReached w from start enter now j

-- of the columns that are not done none is nearer than this one, and it is nearer than a bound
pub record IsNearest (done : List Bool) (dist : List ℕ) (bound j : ℕ) : Type 0 where
  pub within : j < length dist
  pub undone : is_done done j ≡ false
  pub below : at dist j < bound
  pub least : (h : ℕ) → h < length dist → is_done done h ≡ false → at dist j ≤ at dist h

-- what a search is given: weights, how many rows and columns there are, and the row from which it goes out. Then for each
-- column the row that is linked to it, and the prices
pub record Problem : Type 0 where
  pub w : ℕ → ℕ → Option ℕ
  pub n : ℕ
  pub a : ℕ
  pub before : List (Option ℕ)
  pub leave : List ℕ
  pub enter : List ℕ

abbrev pub problem : (ℕ → ℕ → Option ℕ) → ℕ → ℕ → List (Option ℕ) → List ℕ → List ℕ → Problem
problem w n a before leave enter = record { w = w; n = n; a = a; before = before; leave = leave; enter = enter }

-- the same of a side, by the places of its columns
abbrev pub problem_of : SideView → ℕ → List (Option ℕ) → List ℕ → List ℕ → Problem
problem_of side = problem (place_weight side) (side_slots side)

-- the row is the one from which the search goes out, or it is linked
abbrev pub IsInside : Problem → ℕ → Type 0
IsInside p i = (i ≡ p.a) ⊎ ((j : ℕ) × (next_of p.before j ≡ Some i))

-- No row is linked to two columns, and the one from which the search goes out to none. No price that is used is greater than
-- the greatest. From rows that can be in the tree, the two prices of each pair that fits reach its weight.
pub record IsGiven (p : Problem) : Type 0 where
  pub few : p.n ≤ MOST_SLOTS
  pub weights : AreWeights p.w p.n
  pub start : p.a < p.n
  pub root : (j : ℕ) → next_of p.before j ≢ Some p.a
  pub once : AreApart p.before
  pub rows : (i j : ℕ) → next_of p.before j ≡ Some i → (i < p.n) × (j < p.n)
  pub leave_low : (i : ℕ) → at p.leave i ≤ GREATEST_PRICE
  pub enter_low : (i j k : ℕ) → p.w i j ≡ Some k → at p.enter j ≤ GREATEST_PRICE
  pub covers : (i j k : ℕ) → IsInside p i → p.w i j ≡ Some k → k ≤ at p.leave i + at p.enter j

-- of the columns: how far they are, from which place of the tree they were reached, and which are done. Of the rows of the
-- tree: their order, how far they are, and how many. And how far the search has gone
pub record TreeView : Type 0 where
  pub dist : List ℕ
  pub parent : List ℕ
  pub done : List Bool
  pub rows : List ℕ
  pub far : List ℕ
  pub size : ℕ
  pub reach : ℕ

-- a tree with so many rows, whose search has gone so far
abbrev pub tree_of : Tree → ℕ → ℕ → TreeView
tree_of tree size reach =
    record {
      dist = tree.dist.items;
      parent = tree.parent.items;
      done = tree.done.items;
      rows = tree.rows.items;
      far = tree.far.items;
      size = size;
      reach = reach;
    }

-- the row at a place of the tree came in by the column that it is linked to
pub record IsVia (p : Problem) (s : TreeView) (t : ℕ) : Type 0 where
  pub column : ℕ
  pub linked : next_of p.before column ≡ Some (at s.rows t)
  pub done : is_done s.done column ≡ true
  pub far : at s.dist column ≡ at s.far t
  pub parent : at s.parent column < t

-- the row that is linked to a column that is done is at a place of the tree
pub record IsIn (p : Problem) (s : TreeView) (j : ℕ) : Type 0 where
  pub place : ℕ
  pub within : (0 < place) × (place < s.size)
  pub linked : next_of p.before j ≡ Some (at s.rows place)
  pub far : at s.dist j ≡ at s.far place

-- the column was reached from a row of the tree
pub record IsFrom (p : Problem) (s : TreeView) (j : ℕ) : Type 0 where
  pub within : at s.parent j < s.size
  pub weight : ℕ
  pub fits : p.w (at s.rows (at s.parent j)) j ≡ Some weight
  pub exact : at s.dist j + weight ≡ at s.far (at s.parent j) + at p.leave (at s.rows (at s.parent j)) + at p.enter j

-- The tree of a search that has come so far. Its rows are distinct, none is farther than `reach`, and each but the first came
-- in by the column that it is linked to. Columns that are not done are not nearer than `reach`. Every column is as far as along
-- some row, and no farther than along any.
pub record IsTree (p : Problem) (s : TreeView) : Type 0 where
  pub root : (0 < s.size) × (at s.rows 0 ≡ p.a) × (at s.far 0 ≡ 0)
  pub within : (t : ℕ) → t < s.size → at s.far t ≤ s.reach
  pub via : (t : ℕ) → 0 < t → t < s.size → IsVia p s t
  pub apart : (r t : ℕ) → r < t → t < s.size → at s.rows r ≢ at s.rows t
  pub covered : (t j k : ℕ) → t < s.size → p.w (at s.rows t) j ≡ Some k
      → at s.dist j + k ≤ at s.far t + at p.leave (at s.rows t) + at p.enter j
  pub later : (j : ℕ) → j < p.n → is_done s.done j ≡ false → s.reach ≤ at s.dist j
  pub done : (j : ℕ) → j < p.n → is_done s.done j ≡ true → IsIn p s j
  pub reached : (j : ℕ) → j < p.n → at s.dist j < FAR → IsFrom p s j
  pub count : s.size + count_by not s.done ≡ p.n + 1

-- a row comes in next: it is linked to a nearest column that is not done
pub record IsNext (p : Problem) (s : TreeView) (row column : ℕ) : Type 0 where
  pub within : column < p.n
  pub undone : is_done s.done column ≡ false
  pub near : at s.dist column < FAR
  pub least : (j : ℕ) → j < p.n → is_done s.done j ≡ false → at s.dist column ≤ at s.dist j
  pub linked : next_of p.before column ≡ Some row

-- No row of the tree loses its price sooner than the one where the search would end. That row loses it when prices fall so far,
-- and then has no link.
pub record IsBest (p : Problem) (s : TreeView) (end : End) : Type 0 where
  pub alone : end.to ≡ None
  pub within : end.from < s.size
  pub least : (t : ℕ) → t < s.size → end.fall ≤ at s.far t + at p.leave (at s.rows t)
  pub exact : end.fall ≡ at s.far end.from + at p.leave (at s.rows end.from)
  pub later : s.reach ≤ end.fall
  pub low : end.fall ≤ GREATEST_PRICE

-- How the search has ended: prices fall so far. The row at a place of the tree is then linked to a column that was linked to
-- none, or to none itself.
pub record HasEnded (p : Problem) (s : TreeView) (end : End) : Type 0 where
  pub within : end.from < s.size
  pub later : s.reach ≤ end.fall
  pub low : end.fall ≤ GREATEST_PRICE
  pub columns : (j : ℕ) → j < p.n → is_done s.done j ≡ false → end.fall ≤ at s.dist j
  pub rows : (t : ℕ) → t < s.size → end.fall ≤ at s.far t + at p.leave (at s.rows t)
  pub alone : end.to ≡ None → end.fall ≡ at s.far end.from + at p.leave (at s.rows end.from)
  pub column : (j : ℕ) → end.to ≡ Some j → (j < p.n) × (at s.dist j ≡ end.fall) × (at s.parent j ≡ end.from) × (next_of p.before j ≡ None)

-- a tree has grown, to some reach, until the search ended
pub record IsGrown (p : Problem) (now : ℕ → TreeView) (end : End) : Type 0 where
  pub reach : ℕ
  pub tree : IsTree p (now reach)
  pub ended : HasEnded p (now reach) end
