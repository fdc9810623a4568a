use Rattle.std.proofs.Common.{◌≡◌, ℕ, ◌<◌, false, None, length, get_or}
use Rattle.pair_search.specs.Arranged.{column_of, IsRank}
use Rattle.pair_search.specs.Order.{slot_at}
use Rattle.pair_search.specs.Side.{pairs_minute}
use Rattle.pair_search.proofs.order.list_departures.Given as goal

abbrev pub invariant-loop-place : goal.invariant-loop-place
invariant-loop-place l = record {
  within : (k d : ℕ) → k < l.place → IsRank (get_or l.ranks k d);
  columns : (k d : ℕ) → k < l.place → let j = slot_at (length l.ranks) l.columns k in
      column_of (get_or l.ranks k d) ≡ record { post = None; minute = pairs_minute l.pairs false j; slot = j };
}
