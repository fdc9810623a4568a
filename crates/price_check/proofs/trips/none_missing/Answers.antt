use Rattle.std.proofs.Common.{◌≡◌, ◌&&◌, not, true, map, sym, ap, ◌∙◌, arith}
use Rattle.std.specs.Bool.{then_some}
use Rattle.trip_model.specs.Timetable.{slot_at}
use Rattle.trip_model.specs.declared.trip.Trip.{Trip}
use Rattle.price_check.specs.declared.verdict.Reason.TheVariants.{TripMissing}
use Rattle.price_check.specs.Reasons.{stands}
use Rattle.price_check.proofs.First.{none_first, found_first}
use Rattle.price_check.proofs.trips.none_missing.Goals as goal

pub returns-then-not-stands : goal.returns-then-not-stands
returns-then-not-stands g c =
    let t = c.args.timetable.now in
    let s = c.loop-slot.slot in
    let slots = map g.R.Record.slot_of c.args.rows.now in
    let live = ap (λ (trip : Trip). trip.live) (sym c.trip.ensures.value) ∙ c.if-trip.true in
    let alone = sym c.stands.ensures ∙ c.if-not-stands.true in
    let test : ((slot_at t s).trip.live && not (stands slots s)) ≡ true = λ i. live i && not (alone i) in
    found_first _ _ s _ c.loop-slot.invariant (omega (arith, c.loop-slot-test.true, c.slots-slot-end.ensures.count))
    (sym (ap (λ b. then_some b (TripMissing c.args.paper s)) test))

pub returns : goal.returns
returns g c = none_first _ _ c.loop-slot.slot c.loop-slot.invariant (omega (arith, c.loop-slot-test.false, c.slots-slot-end.ensures.count))
