use Rattle.std.proofs.Common.{◌≡◌, ℕ, ◌<◌, get_or}
use Rattle.pair_search.specs.Arranged.{column_of}
use Rattle.pair_search.specs.declared.order.Column.{Column}
use Rattle.pair_search.proofs.order.list_columns.Given as goal

abbrev pub invariant-loop-place : goal.invariant-loop-place
invariant-loop-place l = (k : ℕ) (d : Column) → k < l.place → get_or l.columns k d ≡ column_of (get_or l.ranks k 0)
