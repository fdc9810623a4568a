use Rattle.std.proofs.Common.{◌<◌, length, arith}
use Rattle.std.proofs.lemmas.Result.{err_from_is_err_and}
use Rattle.feed_read.proofs.Places.{places_go_on, places_end_at_start, places_end_at_end}
use Rattle.feed_read.proofs.timetable.push_places.Goals as goal

pub returns-in_err-push_place-clause-full : goal.returns-in_err-push_place-clause-full
returns-in_err-push_place-clause-full c =
    let p = err_from_is_err_and c.from_residual.result c.from_residual.ensures.1 in
    let lt : c.loop-trip.trip-index < length c.args.feed_trips.now = omega arith in
    rw (p.1, p.2) (places_end_at_start c.args.settings.now c.args.feed_trips.now c.loop-trip.trip-index c.trip-item.result
    c.loop-trip.timetable c.in_err-push_place.field-0.0
    lt c.trip-item.is c.loop-trip.invariant c.in_err-push_place.ensures.full)

pub returns-in_err-push_place-2-clause-full : goal.returns-in_err-push_place-2-clause-full
returns-in_err-push_place-2-clause-full c =
    let p = err_from_is_err_and c.from_residual-in_err-push_place-2.result c.from_residual-in_err-push_place-2.ensures.1 in
    let lt : c.loop-trip.trip-index < length c.args.feed_trips.now = omega arith in
    rw (p.1, p.2) (places_end_at_end c.args.settings.now c.args.feed_trips.now c.loop-trip.trip-index c.trip-item.result
    c.loop-trip.timetable c.push_place.new.timetable c.in_err-push_place-2.field-0.0
    lt c.trip-item.is c.loop-trip.invariant c.in_ok-push_place.ensures.pushed c.in_err-push_place-2.ensures.full)

pub loop-trip-preserved : goal.loop-trip-preserved
loop-trip-preserved c =
    let lt : c.loop-trip.trip-index < length c.args.feed_trips.now = omega arith in
    places_go_on c.args.settings.now c.args.feed_trips.now c.loop-trip.trip-index c.trip-item.result c.loop-trip.timetable
    c.push_place.new.timetable c.push_place-in-loop-trip.new.timetable
    lt c.trip-item.is c.loop-trip.invariant c.in_ok-push_place.ensures.pushed c.in_ok-push_place-2.ensures.pushed
