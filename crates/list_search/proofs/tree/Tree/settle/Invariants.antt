use Rattle.std.proofs.Common.{◌≡◌, ◌≢◌, ℕ, ◌<◌, ◌⊎◌, None}
use Rattle.std.specs.Prelude.{vec_len}
use Rattle.pair_search.specs.Search.{at}
use Rattle.list_search.specs.Lists.{listed}
use Rattle.list_search.specs.Trees.{columns_of, IsSettled, IsKept}
use Rattle.list_search.proofs.tree.Tree.settle.Given as goal

abbrev pub invariant-loop-place : goal.invariant-loop-place
invariant-loop-place l = record {
  slots : vec_len l.self.dist ≡ vec_len l.initial.self.dist;
  rows : l.self.rows ≡ l.initial.self.rows;
  settled : (j t : ℕ) → t < l.place → listed l.lists (at l.initial.self.rows.items t) j ≢ None
      → IsSettled l.fall (columns_of l.initial.self) l.initial.enter (columns_of l.self) l.enter j;
  either : (j : ℕ) → IsSettled l.fall (columns_of l.initial.self) l.initial.enter (columns_of l.self) l.enter j
      ⊎ IsKept (columns_of l.initial.self) l.initial.enter (columns_of l.self) l.enter j;
}
