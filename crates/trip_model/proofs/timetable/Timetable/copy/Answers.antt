use Rattle.std.proofs.Common.{ap, ◌∙◌, rules}
use Rattle.trip_model.specs.Place.{Place}
use Rattle.trip_model.specs.Timetable.{Slot, place_names, slot_names}
use Rattle.trip_model.proofs.SlotLemmas.{place-is, IsPlace-copied, places_go_on}
use Rattle.trip_model.proofs.TimetableLemmas.{new_after_front}
use Rattle.trip_model.proofs.timetable.Timetable.copy.Goals as goal

pub push-requires-clause-new : goal.push-requires-clause-new
push-requires-clause-new c =
    new_after_front (λ (p : Place). p.name) c.args.self.now.places c.loop-place.place _ _ _ c.places-place-end.ensures.valid.place_names
    (search rules)
    (ap place_names c.loop-place.invariant) (c.in_ok-name.ensures.ok ∙ c.place_name.ensures)

pub push-requires-clause-place : goal.push-requires-clause-place
push-requires-clause-place c =
    IsPlace-copied c.args.self.now c.loop-place.copy c.loop-place.place _ c.places-place-end.ensures.valid (search rules)
    c.loop-place.invariant
    (place-is c.args.self.now c.loop-place.place _ _ _ _ (c.in_ok-name.ensures.ok ∙ c.place_name.ensures) c.terminal_name-terminal.ensures
    c.class_name-class.ensures c.layover.ensures.value)

pub loop-place-preserved : goal.loop-place-preserved
loop-place-preserved c =
    places_go_on c.args.self.now c.loop-place.copy c.push.new.self c.loop-place.place _ (search rules) c.loop-place.invariant
    (place-is c.args.self.now c.loop-place.place _ _ _ _ (c.in_ok-name.ensures.ok ∙ c.place_name.ensures) c.terminal_name-terminal.ensures
    c.class_name-class.ensures c.layover.ensures.value)
    c.in_ok-push.ensures.pushed

pub push_trip-requires-clause-new : goal.push_trip-requires-clause-new
push_trip-requires-clause-new c =
    new_after_front (λ (s : Slot). s.name) c.args.self.now.slots c.loop-slot.slot _ _ _ c.slots-slot-end.ensures.valid.slot_names
    (search rules) (ap slot_names c.loop-slot.invariant) c.name.ensures
