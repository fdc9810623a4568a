use Rattle.std.proofs.Common.{◌≡◌, ℕ, ◌<◌, ◌≤◌, false, length}
use Rattle.std.specs.Prelude.{IfSome, IfNone}
use Rattle.pair_search.specs.Search.{at, is_done}
use Rattle.pair_search.proofs.scan.nearest_between.Given as goal

abbrev pub invariant-loop-column : goal.invariant-loop-column
invariant-loop-column l = record {
  least : (j : ℕ) → l.first ≤ j → j < l.column → is_done l.done j ≡ false → l.least ≤ at l.dist j;
  some : IfSome l.best (λ j. (j < length l.dist) × (is_done l.done j ≡ false) × (at l.dist j ≡ l.least) × (l.least < 4503599627370497));
  ahead : IfSome l.best (λ j. (h : ℕ) → l.first ≤ h → h < j → is_done l.done h ≡ false → l.least < at l.dist h);
  none : IfNone l.best (l.least ≡ 4503599627370497);
}
