use Rattle.std.proofs.Common.{◌≡◌, take}
use Rattle.std.specs.Prelude.{vec_len}
use Rattle.pair_search.specs.Search.{AreLooked}
use Rattle.list_search.specs.Lists.{value_of}
use Rattle.list_search.specs.Trees.{columns_of, AreNear}
use Rattle.list_search.proofs.tree.Tree.look.Given as goal

abbrev pub invariant-loop-place : goal.invariant-loop-place
invariant-loop-place l = record {
  slots : vec_len l.self.dist ≡ vec_len l.initial.self.dist;
  rows : (l.self.rows.items ≡ l.initial.self.rows.items) × (l.self.far.items ≡ l.initial.self.far.items);
  done : l.self.done.items ≡ l.initial.self.done.items;
  looked : AreLooked (value_of (take l.place l.pairs)) (vec_len l.initial.self.dist) l.from l.start l.enter (columns_of l.initial.self)
      (columns_of l.self);
  near : AreNear l.self.done.items l.self.dist.items l.self.near.items;
}
