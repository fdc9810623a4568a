use Rattle.std.proofs.Common.{ap, subst, ◌∙◌}
use Rattle.trip_model.specs.Timetable.{IsTimetable, slots_of, timetable_of}
use Rattle.std.proofs.lemmas.List.{map-append}
use Rattle.trip_model.proofs.SlotLemmas.{IsTimetable-pop_slot}
use Rattle.trip_model.proofs.timetable.Timetable.pop_trip.Goals as goal

pub invariant_of-self-2 : goal.invariant_of-self-2
invariant_of-self-2 c =
    let t = timetable_of c.self.inside.classed c.self.inside.places.entries c.pop.new.self.entries c.self.inside.early c.self.inside.late in
    IsTimetable-pop_slot t _
    (subst (λ slots. IsTimetable (record t { slots = slots }))
    (ap slots_of c.in_ok-name.ensures.entries ∙ map-append _ c.pop.new.self.entries _) c.self.invariant)
