use Rattle.std.proofs.Common.{◌≡◌, take}
use Rattle.feed_read.specs.Base.{timetable_over, places_met, ends_of}
use Rattle.feed_read.proofs.timetable.push_trips.Given as goal

abbrev pub invariant-loop-feed_trip : goal.invariant-loop-feed_trip
invariant-loop-feed_trip l = l.timetable ≡ timetable_over l.settings (places_met (ends_of l.settings l.feed_trips))
    (take l.feed_trip-index l.feed_trips)
