-- How a tree is kept in one list of nodes. Node 1 is the root. Below node i are 2 i and 2 i + 1. The leaf of place p is p nodes
-- after the first leaf.
use Rattle.std.specs.Prelude.{◌≡◌, ℕ, ◌+◌, ◌*◌, ◌^◌, ◌<◌, ◌≤◌, List, length, slice_index_or}

-- the node of this number
abbrev pub node_of : {S : Type 0} → S → List S → ℕ → S
node_of unit nodes i = slice_index_or nodes i unit

-- every leaf sums one leaf, and every other node is the join of the two below it
pub record IsTree {S : Type 0} (sums : S → ℕ → Type 0) (unit : S) (join : S → S → S) (leaves : ℕ) (nodes : List S) : Type 0 where
  pub count : length nodes ≡ 2 * leaves
  pub leaf : (p : ℕ) → p < leaves → sums (node_of unit nodes (leaves + p)) 1
  pub inner : (i : ℕ) → 1 ≤ i → i < leaves → node_of unit nodes i ≡ join (node_of unit nodes (2 * i)) (node_of unit nodes (2 * i + 1))

-- in a tree of this depth the node is so high above the leaves, and these leaves are under it
pub record IsSpan (depth height node first width : ℕ) : Type 0 where
  pub level : ℕ
  pub offset : ℕ
  pub depth_is : level + height ≡ depth
  pub within : offset < 2 ^ level
  pub node_is : node ≡ 2 ^ level + offset
  pub first_is : first ≡ offset * 2 ^ height
  pub width_is : width ≡ 2 ^ height
