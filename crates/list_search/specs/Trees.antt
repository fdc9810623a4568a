-- The tree of a search over lists, and how it has grown.
use Rattle.std.specs.Prelude.{◌≡◌, ℕ, ◌+◌, ◌-◌, ◌<◌, ◌≤◌, ◌/◌, false, Bool, List, length}
use Rattle.pair_search.specs.Search.{at, is_done, as_columns, Columns, Problem, TreeView, IsTree, HasEnded}
use Rattle.pair_search.specs.declared.grow.End.{End}
use Rattle.pair_search.specs.declared.limits.TheConstants.{FAR}
use Rattle.list_search.specs.declared.tree.Tree.{Tree}
use Rattle.list_search.specs.declared.tree.TheConstants.{BLOCK}

-- the columns of a tree
abbrev pub columns_of : Tree → Columns
columns_of tree = as_columns tree.dist.items tree.parent.items tree.done.items

-- a tree with so many rows, whose search has gone so far
abbrev pub tree_of : Tree → ℕ → ℕ → TreeView
tree_of tree size reach =
    record {
      dist = tree.dist.items;
      parent = tree.parent.items;
      done = tree.done.items;
      rows = tree.rows.items;
      far = tree.far.items;
      size = size;
      reach = reach;
    }

-- no column of a block that is not done is nearer than is known of the block
abbrev pub AreNear : List Bool → List ℕ → List ℕ → Type 0
AreNear done dist near = (j : ℕ) → j < length dist → is_done done j ≡ false → at near (j / BLOCK) ≤ at dist j

-- a tree of some reach, with so many rows, has grown until the search ended
pub record IsGrownTo (p : Problem) (now : ℕ → ℕ → TreeView) (size : ℕ) (end : End) : Type 0 where
  pub reach : ℕ
  pub tree : IsTree p (now size reach)
  pub ended : HasEnded p (now size reach) end

-- a column has gained what prices fall past it, and is far and not done again
pub record IsSettled (fall : ℕ) (was : Columns) (enter : List ℕ) (now : Columns) (enter' : List ℕ) (j : ℕ) : Type 0 where
  pub gained : at enter' j ≡ at enter j + (fall - at was.dist j)
  pub far : at now.dist j ≡ FAR
  pub undone : is_done now.done j ≡ false

-- a column is as it was
pub record IsKept (was : Columns) (enter : List ℕ) (now : Columns) (enter' : List ℕ) (j : ℕ) : Type 0 where
  pub price : at enter' j ≡ at enter j
  pub far : at now.dist j ≡ at was.dist j
  pub closed : is_done now.done j ≡ is_done was.done j
