use Rattle.std.proofs.Common.{◌≡◌, length}
use Rattle.std.specs.Prelude.{All}
use Rattle.feed_read.specs.Kept.{nothing_kept, trip_ends_seen}
use Rattle.feed_read.proofs.trip_ends.no_trip_ends.Given as goal

abbrev pub invariant-loop : goal.invariant-loop
invariant-loop l = record {
  count : length l.trip_ends.items ≡ l.counter;
  none : All (λ kept. trip_ends_seen kept ≡ nothing_kept) l.trip_ends.items;
}
