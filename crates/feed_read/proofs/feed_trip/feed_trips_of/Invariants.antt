use Rattle.std.proofs.Common.{◌≡◌, List, [], drop, map, take}
use Rattle.std.specs.Prelude.{All}
use Rattle.gtfs_tables.specs.Reading.{each_record}
use Rattle.feed_read.specs.FeedTrips.{IsFeedTrip, with_feed_trip}
use Rattle.feed_read.specs.Kept.{AreKept, trip_ends_seen}
use Rattle.feed_read.specs.StopTimes.{StopTimeView}
use Rattle.feed_read.proofs.feed_trip.feed_trips_of.Given as goal

abbrev pub invariant-loop-slot : goal.invariant-loop-slot
invariant-loop-slot l = record {
  gives : (stop_times : List StopTimeView) → AreKept stop_times (map trip_ends_seen l.trip_ends)
      → each_record (with_feed_trip l.settings l.selection.classes.items stop_times) l.slot l.feed_trips.items
      (drop l.slot l.selection.names)
      ≡ each_record (with_feed_trip l.settings l.selection.classes.items stop_times) 0 [] l.selection.names;
  valid : All IsFeedTrip l.feed_trips.items;
  names : map (λ feed_trip. feed_trip.name) l.feed_trips.items ≡ take l.slot l.selection.names;
}
