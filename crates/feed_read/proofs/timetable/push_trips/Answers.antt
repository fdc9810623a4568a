use Rattle.std.proofs.Common.{◌<◌, length, take, arith, sym, subst, ◌∙◌}
use Rattle.std.specs.Prelude.{Contains, IfSome}
use Rattle.feed_read.specs.declared.feed_trip.FeedTrip.{FeedTrip}
use Rattle.feed_read.specs.Base.{end_of, ends_of, names_of, places_met, start_of}
use Rattle.feed_read.specs.FeedTrips.{IsFeedTrip}
use Rattle.feed_read.proofs.Classes.{trip_is_valid, trip_of_one_class}
use Rattle.feed_read.proofs.Places.{start_met, end_met}
use Rattle.feed_read.proofs.Slots.{place_is_numbered, name_is_new, slots_go_on}
use Rattle.feed_read.proofs.timetable.push_trips.Goals as goal

pub unwrap-from-requires : goal.unwrap-from-requires
unwrap-from-requires c =
    let i = c.loop-feed_trip.feed_trip-index in
    let feed_trip = c.feed_trip-item.result in
    let lt : i < length c.args.feed_trips.now = omega arith in
    let places = places_met (ends_of c.args.settings.now c.args.feed_trips.now) in
    place_is_numbered c.args.settings.now places (take i c.args.feed_trips.now) c.loop-feed_trip.timetable
    (start_of c.args.settings.now feed_trip) c.in_ok-find_place.field-0
    c.loop-feed_trip.invariant c.in_ok-find_place.ensures.number
    (subst (λ (j : FeedTrip). Contains (names_of places) (start_of c.args.settings.now j).name) (sym c.feed_trip-item.is)
    (start_met c.args.settings.now c.args.feed_trips.now i feed_trip lt))

pub unwrap-to-requires : goal.unwrap-to-requires
unwrap-to-requires c =
    let i = c.loop-feed_trip.feed_trip-index in
    let feed_trip = c.feed_trip-item.result in
    let lt : i < length c.args.feed_trips.now = omega arith in
    let places = places_met (ends_of c.args.settings.now c.args.feed_trips.now) in
    place_is_numbered c.args.settings.now places (take i c.args.feed_trips.now) c.loop-feed_trip.timetable
    (end_of c.args.settings.now feed_trip) c.in_ok-find_place-2.field-0
    c.loop-feed_trip.invariant c.in_ok-find_place-2.ensures.number
    (subst (λ (j : FeedTrip). Contains (names_of places) (end_of c.args.settings.now j).name) (sym c.feed_trip-item.is)
    (end_met c.args.settings.now c.args.feed_trips.now i feed_trip lt))

pub push_trip-requires-clause-new : goal.push_trip-requires-clause-new
push_trip-requires-clause-new c =
    let lt : c.loop-feed_trip.feed_trip-index < length c.args.feed_trips.now = omega arith in
    name_is_new c.args.settings.now (places_met (ends_of c.args.settings.now c.args.feed_trips.now)) c.args.feed_trips.now
    c.loop-feed_trip.feed_trip-index c.feed_trip-item.result c.loop-feed_trip.timetable
    c.as_str.result.now lt c.requires.distinct c.loop-feed_trip.invariant c.as_str.ensures c.feed_trip-item.is

pub push_trip-requires-clause-valid : goal.push_trip-requires-clause-valid
push_trip-requires-clause-valid c =
    let i = c.loop-feed_trip.feed_trip-index in
    let feed_trip = c.feed_trip-item.result in
    let timetable = c.loop-feed_trip.timetable in
    let lt : i < length c.args.feed_trips.now = omega arith in
    trip_is_valid timetable.places c.unwrap-from.result c.unwrap-to.result feed_trip
    (subst (λ o. IfSome o (λ p. p < length timetable.places)) c.unwrap-from.ensures c.in_ok-find_place.ensures.within)
    (subst (λ o. IfSome o (λ p. p < length timetable.places)) c.unwrap-to.ensures c.in_ok-find_place-2.ensures.within)
    (trip_of_one_class c.args.settings.now c.args.feed_trips.now (take i c.args.feed_trips.now) i feed_trip timetable c.unwrap-from.result
    c.unwrap-to.result c.requires.valid lt
    c.feed_trip-item.is c.loop-feed_trip.invariant (sym c.in_ok-find_place.ensures.number ∙ c.unwrap-from.ensures)
    (sym c.in_ok-find_place-2.ensures.number ∙ c.unwrap-to.ensures))
    (subst IsFeedTrip (sym c.feed_trip-item.is) (c.requires.valid i feed_trip lt))

pub loop-feed_trip-preserved : goal.loop-feed_trip-preserved
loop-feed_trip-preserved c =
    let lt : c.loop-feed_trip.feed_trip-index < length c.args.feed_trips.now = omega arith in
    slots_go_on c.args.settings.now (places_met (ends_of c.args.settings.now c.args.feed_trips.now)) c.args.feed_trips.now
    c.loop-feed_trip.feed_trip-index c.feed_trip-item.result
    c.loop-feed_trip.timetable c.push_trip.new.self c.as_str.result.now c.in_ok-find_place.field-0 c.in_ok-find_place-2.field-0
    c.unwrap-from.result c.unwrap-to.result
    lt c.feed_trip-item.is c.loop-feed_trip.invariant c.as_str.ensures c.in_ok-find_place.ensures.number c.in_ok-find_place-2.ensures.number
    c.unwrap-from.ensures c.unwrap-to.ensures c.in_ok-push_trip.ensures.pushed
