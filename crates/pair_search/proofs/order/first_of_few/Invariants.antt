use Rattle.std.proofs.Common.{ℕ, ◌<◌, ◌≤◌, get_or}
use Rattle.pair_search.specs.declared.order.Column.{Column}
use Rattle.pair_search.proofs.order.first_of_few.Given as goal

abbrev pub invariant-loop-first : goal.invariant-loop-first
invariant-loop-first l = record {
  after : l.from ≤ l.first;
  before : (k : ℕ) (d : Column) → l.from ≤ k → k < l.first → (get_or l.columns k d).minute < l.minute;
}
