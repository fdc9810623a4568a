use Rattle.std.proofs.Common.{◌<◌, ◌≤◌, ◌++◌, ◌∷◌, [], length, map, take, sym, ap, subst, ◌∙◌, arith}
use Rattle.std.specs.Prelude.{All}
use Rattle.std.proofs.lemmas.List.{get_or_default, length-map, map_push, take_all, take_more}
use Rattle.std.proofs.lemmas.List.Elements.{All-push}
use Rattle.std.proofs.lemmas.Result.{err_from_is_err_and}
use Rattle.trip_model.specs.Timetable.{AreDistinct}
use Rattle.feed_read.specs.declared.feed_trip.FeedTrip.{FeedTrip}
use Rattle.feed_read.specs.FeedTrips.{IsFeedTrip}
use Rattle.feed_read.proofs.FeedTripLemmas.{feed_trips_go_on, feed_trips_end}
use Rattle.feed_read.proofs.feed_trip.feed_trips_of.Goals as goal

pub returns-in_err-feed_trip-clause-gives : goal.returns-in_err-feed_trip-clause-gives
returns-in_err-feed_trip-clause-gives c = λ stop_times are.
    let p = err_from_is_err_and c.from_residual.result c.from_residual.ensures.1 in
    let lt : c.loop-slot.slot < length c.args.selection.now.names = omega arith in
    let within : c.loop-slot.slot < length c.args.trip_ends.now = omega arith in
    let has : c.loop-slot.slot < length c.args.selection.now.classes.items = omega arith in
    let of = c.as_str-class.ensures ∙ c.index.ensures
    ∙ get_or_default c.args.selection.now.classes.items c.loop-slot.slot c.index.result.now [] has in
    rw (p.1, p.2) (feed_trips_end c.args.settings.now stop_times c.args.trip_ends.now c.args.selection.now.names
    c.args.selection.now.classes.items are c.loop-slot.feed_trips.items c.loop-slot.slot c.get-name.result.now
    c.as_str-class.result.now c.index-trip_ends-slot.result
    c.in_err-feed_trip.field-0.0 _ lt within c.get-name.ensures of c.index-trip_ends-slot.is c.in_err-feed_trip.ensures.gives
    (c.loop-slot.invariant.gives stop_times are))

pub loop-slot-preserved : goal.loop-slot-preserved
loop-slot-preserved c =
    let lt : c.loop-slot.slot < length c.args.selection.now.names = omega arith in
    let within : c.loop-slot.slot < length c.args.trip_ends.now = omega arith in
    let has : c.loop-slot.slot < length c.args.selection.now.classes.items = omega arith in
    let of = c.as_str-class.ensures ∙ c.index.ensures
    ∙ get_or_default c.args.selection.now.classes.items c.loop-slot.slot c.index.result.now [] has in
    record {
      gives = λ stop_times are. rw c.in_ok-push.ensures.items
          (feed_trips_go_on c.args.settings.now stop_times c.args.trip_ends.now c.args.selection.now.names
          c.args.selection.now.classes.items are c.loop-slot.feed_trips.items c.loop-slot.slot c.get-name.result.now
          c.as_str-class.result.now c.index-trip_ends-slot.result
          c.in_ok-feed_trip.feed_trip _ lt within c.get-name.ensures of c.index-trip_ends-slot.is c.in_ok-feed_trip.ensures.gives
          (c.loop-slot.invariant.gives stop_times are));
      valid = subst (λ feed_trips. All IsFeedTrip feed_trips) (sym c.in_ok-push.ensures.items)
          (All-push IsFeedTrip c.loop-slot.feed_trips.items c.in_ok-feed_trip.feed_trip c.loop-slot.invariant.valid
          c.in_ok-feed_trip.ensures.valid);
      names = ap (map (λ (feed_trip : FeedTrip). feed_trip.name)) c.in_ok-push.ensures.items
          ∙ map_push (λ (feed_trip : FeedTrip). feed_trip.name) c.loop-slot.feed_trips.items c.in_ok-feed_trip.feed_trip
          ∙ ap (λ names. names ++ c.in_ok-feed_trip.feed_trip.name ∷ []) c.loop-slot.invariant.names
          ∙ ap (λ name. take c.loop-slot.slot c.args.selection.now.names ++ name ∷ []) (c.in_ok-feed_trip.ensures.name ∙ c.get-name.ensures)
          ∙ sym (take_more c.args.selection.now.names c.loop-slot.slot [] lt);
    }

pub returns-clause-distinct : goal.returns-clause-distinct
returns-clause-distinct c =
    let end : length c.args.selection.now.names ≤ c.loop-slot.slot = omega arith in
    subst AreDistinct (sym (c.loop-slot.invariant.names ∙ take_all c.loop-slot.slot c.args.selection.now.names end))
    c.len-slot-end.ensures.distinct

pub returns-clause-count : goal.returns-clause-count
returns-clause-count c =
    let end : length c.args.selection.now.names ≤ c.loop-slot.slot = omega arith in
    sym (length-map c.loop-slot.feed_trips.items (λ (feed_trip : FeedTrip). feed_trip.name))
    ∙ ap length (c.loop-slot.invariant.names ∙ take_all c.loop-slot.slot c.args.selection.now.names end)
