use Rattle.std.proofs.Common.{◌≤◌, length, Ok, sym, ap, ◌∙◌, arith}
use Rattle.std.proofs.lemmas.Bool.{le-leb}
use Rattle.gtfs_tables.specs.Reading.{provided}
use Rattle.gtfs_tables.specs.declared.fault.FeedFault.TheVariants as fault
use Rattle.gtfs_tables.specs.declared.paper.Paper.TheVariants as paper
use Rattle.trip_model.specs.Timetable.{TimetableView}
use Rattle.trip_model.specs.declared.limits.TheConstants.{MOST_PLACES}
use Rattle.feed_read.specs.Base.{ends_of, places_met, timetable_of, timetable_over}
use Rattle.feed_read.proofs.timetable.timetable_of.Goals as goal

pub returns : goal.returns
unfolding timetable_of
returns c =
    let places = places_met (ends_of c.args.settings.now c.args.feed_trips.now) in
    let made = c.in_ok-push_trips.ensures in
    let few : length places ≤ MOST_PLACES =
    omega (arith, ap (λ (t : TimetableView). length t.places) made, c.slots-slots.ensures.valid.places) in
    ap (λ b. provided b (fault.TooManyPlaces paper.StopTimes) (Ok (timetable_over c.args.settings.now places c.args.feed_trips.now)))
    (le-leb (length places) MOST_PLACES few)
    ∙ ap Ok (sym made)
