use Rattle.std.proofs.Common.{Global, Vec}
use Rattle.feed_read.specs.declared.feed_trip.FeedTrip.{FeedTrip}
use Rattle.feed_read.specs.FeedTrips.{feed_trips_of}
use Rattle.feed_read.specs.Trips.{seen}
use Rattle.feed_read.specs.StopTimes.{stop_times_for}
use Rattle.feed_read.proofs.KeptLemmas.{gives-kept}
use Rattle.feed_read.proofs.feed.feed_trips_in.Goals as goal

pub returns-clause-gives : goal.returns-clause-gives
returns-clause-gives c =
    gives-kept (λ (feed_trips : Vec FeedTrip Global). feed_trips.items) c.feed_trips_of.result c.in_ok-trip_ends.trip_ends.items
    (stop_times_for c.args.selection.now.names c.args.stop_times.now)
    (feed_trips_of c.args.settings.now (seen c.args.selection.now)) c.in_ok-trip_ends.ensures.keeps
    (λ stop_times are. c.feed_trips_of.ensures.gives stop_times (rw c.deref.ensures.value are))
