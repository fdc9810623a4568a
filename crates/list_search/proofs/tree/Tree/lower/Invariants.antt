use Rattle.std.proofs.Common.{◌≡◌, ◌≢◌, ℕ, ◌-◌, ◌<◌}
use Rattle.pair_search.specs.Search.{at}
use Rattle.list_search.proofs.tree.Tree.lower.Given as goal

abbrev pub invariant-loop-place : goal.invariant-loop-place
invariant-loop-place l = record {
  rows : (t : ℕ) → t < l.place
      → at l.leave (at l.self.rows.items t) ≡ at l.initial.leave (at l.self.rows.items t) - (l.fall - at l.self.far.items t);
  others : (i : ℕ) → ((t : ℕ) → t < l.place → at l.self.rows.items t ≢ i) → at l.leave i ≡ at l.initial.leave i;
}
