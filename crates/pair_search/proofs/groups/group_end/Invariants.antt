use Rattle.std.proofs.Common.{◌≡◌, ℕ, ◌-◌, ◌<◌, ◌≤◌, length, get_or}
use Rattle.pair_search.specs.declared.order.Column.{Column}
use Rattle.pair_search.proofs.groups.group_end.Given as goal

abbrev pub invariant-loop-to : goal.invariant-loop-to
invariant-loop-to l = record {
  after : l.from < l.to;
  within : l.to ≤ length l.columns;
  posts : (k : ℕ) (d : Column) → l.from ≤ k → k < l.to → (get_or l.columns k d).post ≡ (get_or l.columns l.from d).post;
  rise : (h k : ℕ) (d : Column) → l.from ≤ h → h ≤ k → k < l.to → (get_or l.columns h d).minute ≤ (get_or l.columns k d).minute;
}

abbrev pub decreases-loop-to : goal.decreases-loop-to
decreases-loop-to l = length l.columns - l.to
