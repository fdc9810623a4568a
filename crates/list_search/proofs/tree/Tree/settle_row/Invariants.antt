use Rattle.std.proofs.Common.{◌≡◌, ◌≢◌, ℕ, take, None}
use Rattle.std.specs.Prelude.{vec_len}
use Rattle.list_search.specs.Lists.{value_of}
use Rattle.list_search.specs.Trees.{columns_of, IsSettled, IsKept}
use Rattle.list_search.proofs.tree.Tree.settle_row.Given as goal

abbrev pub invariant-loop-place : goal.invariant-loop-place
invariant-loop-place l = record {
  slots : vec_len l.self.dist ≡ vec_len l.initial.self.dist;
  same : (l.self.rows ≡ l.initial.self.rows) × (l.self.parent ≡ l.initial.self.parent);
  settled : (j : ℕ) → value_of (take l.place l.pairs) j ≢ None
      → IsSettled l.fall (columns_of l.initial.self) l.initial.enter (columns_of l.self) l.enter j;
  kept : (j : ℕ) → value_of (take l.place l.pairs) j ≡ None
      → IsKept (columns_of l.initial.self) l.initial.enter (columns_of l.self) l.enter j;
}
