use Rattle.std.proofs.Common.{◌≡◌, take, []}
use Rattle.feed_read.specs.Base.{timetable_over, places_met, ends_of}
use Rattle.feed_read.proofs.timetable.push_places.Given as goal

abbrev pub invariant-loop-trip : goal.invariant-loop-trip
invariant-loop-trip l = l.timetable ≡ timetable_over l.settings (places_met (ends_of l.settings (take l.trip-index l.feed_trips))) []
