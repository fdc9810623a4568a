use Rattle.std.proofs.Common.{◌≡◌, arith}
use Rattle.std.proofs.lemmas.Grind.{common_steps}
use Rattle.std.proofs.lemmas.List.Elements.{All-push}
use Rattle.feed_read.specs.Kept.{nothing_kept, trip_ends_seen}
use Rattle.feed_read.specs.declared.trip_ends.TripEnds.{TripEnds}
use Rattle.feed_read.proofs.trip_ends.no_trip_ends.Goals as goal

pub loop-preserved : goal.loop-preserved
loop-preserved c = record {
  count = grind (arith, common_steps);
  none = rw c.in_ok-push.ensures.items (All-push (λ (kept : TripEnds). trip_ends_seen kept ≡ nothing_kept) c.loop.trip_ends.items
      c.new.result c.loop.invariant.none c.new.ensures);
}
