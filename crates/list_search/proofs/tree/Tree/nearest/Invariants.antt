use Rattle.std.proofs.Common.{◌≡◌, ℕ, ◌*◌, ◌<◌, ◌≤◌, false, length}
use Rattle.std.specs.Prelude.{IfSome, IfNone}
use Rattle.pair_search.specs.Search.{at, is_done}
use Rattle.list_search.specs.Trees.{AreNear}
use Rattle.list_search.proofs.tree.Tree.nearest.Given as goal

abbrev pub invariant-loop-block : goal.invariant-loop-block
invariant-loop-block l = record {
  dist : l.self.dist ≡ l.initial.self.dist;
  parent : l.self.parent ≡ l.initial.self.parent;
  done : l.self.done ≡ l.initial.self.done;
  rows : (l.self.rows ≡ l.initial.self.rows) × (l.self.far ≡ l.initial.self.far);
  near : AreNear l.self.done.items l.self.dist.items l.self.near.items;
  low : l.best.distance ≤ l.bound;
  least : (j : ℕ) → j < l.block * 64 → j < length l.initial.self.dist.items → is_done l.initial.self.done.items j ≡ false
      → l.best.distance ≤ at l.initial.self.dist.items j;
  some : IfSome l.best.column (λ j. (j < length l.initial.self.dist.items) × (is_done l.initial.self.done.items j ≡ false)
      × (at l.initial.self.dist.items j ≡ l.best.distance) × (l.best.distance < l.bound));
  ahead : IfSome l.best.column (λ j. (h : ℕ) → h < j → is_done l.initial.self.done.items h ≡ false
      → l.best.distance < at l.initial.self.dist.items h);
  none : IfNone l.best.column (l.best.distance ≡ l.bound);
}
