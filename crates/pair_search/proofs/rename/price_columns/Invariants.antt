use Rattle.std.proofs.Common.{◌≡◌, ℕ, ◌<◌}
use Rattle.pair_search.specs.Search.{at}
use Rattle.pair_search.specs.Side.{side_place}
use Rattle.pair_search.proofs.rename.price_columns.Given as goal

abbrev pub invariant-loop-column : goal.invariant-loop-column
invariant-loop-column l = (k : ℕ) → k < l.column → at l.enter k ≡ at l.entering (side_place l.side k)
