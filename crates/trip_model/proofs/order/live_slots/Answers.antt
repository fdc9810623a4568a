use Rattle.std.proofs.Common.{◌≡◌, ◌<◌, true, false, length, sym, ap, subst, ◌∙◌, All, arith}
use Rattle.std.proofs.lemmas.List.{append-nil}
use Rattle.std.proofs.lemmas.List.Elements.{All-push}
use Rattle.trip_model.specs.declared.trip.Trip.{Trip}
use Rattle.trip_model.specs.Timetable.{slot_at}
use Rattle.trip_model.proofs.OrderLemmas.{slots-more, slots-all}
use Rattle.trip_model.proofs.order.live_slots.Goals as goal
use Rattle.trip_model.proofs.order.live_slots.Goals.{then-trip+in_ok-push, else-trip}

pub loop-slot-preserved : goal.loop-slot-preserved
loop-slot-preserved c = elim c.if-trip.branch [
  | then-trip+in_ok-push w ↦
      let t = c.args.timetable.now in
      let live : (slot_at t c.loop-slot.slot).trip.live ≡ true = ap (λ (trip : Trip). trip.live) (sym c.trip.ensures.value)
      ∙ w.if-trip.true in
      let put = ap (λ v. v.items) w.slots-is ∙ w.in_ok-push.ensures.items in
      record {
        taken = put ∙ slots-more t c.loop-slot.slots.items c.loop-slot.slot c.loop-slot.invariant.taken true live;
        live = subst (All (λ s. (slot_at t s).trip.live ≡ true)) (sym put)
            (All-push (λ s. (slot_at t s).trip.live ≡ true) c.loop-slot.slots.items c.loop-slot.slot c.loop-slot.invariant.live live);
        within = subst (All (λ s. s < length t.slots)) (sym put)
            (All-push (λ s. s < length t.slots) c.loop-slot.slots.items c.loop-slot.slot c.loop-slot.invariant.within
            (omega (arith, c.slots-slot-end.ensures.count)));
      }
  | else-trip w ↦
      let t = c.args.timetable.now in
      let dead = ap (λ (trip : Trip). trip.live) (sym c.trip.ensures.value) ∙ w.if-trip.false in
      let same = ap (λ v. v.items) w.slots-is in
      record {
        taken = same ∙ sym (append-nil c.loop-slot.slots.items)
            ∙ slots-more t c.loop-slot.slots.items c.loop-slot.slot c.loop-slot.invariant.taken false dead;
        live = subst (All (λ s. (slot_at t s).trip.live ≡ true)) (sym same) c.loop-slot.invariant.live;
        within = subst (All (λ s. s < length t.slots)) (sym same) c.loop-slot.invariant.within;
      }
]

pub returns-clause-slots : goal.returns-clause-slots
returns-clause-slots c = slots-all c.args.timetable.now _ c.loop-slot.slot (omega (arith, c.slots-slot-end.ensures.count))
    c.loop-slot.invariant.taken
