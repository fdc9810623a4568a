use Rattle.std.proofs.Common.{◌≡◌, ℕ, ◌<◌, ◌≤◌, false, List, length}
use Rattle.std.specs.Prelude.{IfSome, IfNone}
use Rattle.pair_search.specs.Groups.{begins, AreNear, AreReached}
use Rattle.pair_search.specs.Search.{at, is_done}
use Rattle.pair_search.specs.Side.{side_slots}
use Rattle.pair_search.proofs.scan.nearest.Given as goal

abbrev pub invariant-loop-group : goal.invariant-loop-group
invariant-loop-group l = record {
  near : AreNear l.side.count l.side.groups l.done l.dist l.seen;
  reached : (enter : List ℕ) → AreReached l.side enter l.done l.dist l.initial.seen → AreReached l.side enter l.done l.dist l.seen;
  low : l.best.distance ≤ l.bound;
  least : (j : ℕ) → j < begins (side_slots l.side) l.side.count l.side.groups l.group → is_done l.done j ≡ false
      → l.best.distance ≤ at l.dist j;
  some : IfSome l.best.column (λ j. (j < length l.dist) × (is_done l.done j ≡ false) × (at l.dist j ≡ l.best.distance)
      × (l.best.distance < l.bound));
  ahead : IfSome l.best.column (λ j. (h : ℕ) → h < j → is_done l.done h ≡ false → l.best.distance < at l.dist h);
  none : IfNone l.best.column (l.best.distance ≡ l.bound);
}
