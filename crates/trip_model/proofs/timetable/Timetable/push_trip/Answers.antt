use Rattle.std.proofs.Common.{sym, subst, ◌∙◌}
use Rattle.trip_model.specs.Timetable.{IsTimetable}
use Rattle.trip_model.proofs.TimetableLemmas.{pushed_slot, slots-count, IsTimetable-push_slot}
use Rattle.trip_model.proofs.timetable.Timetable.push_trip.Goals as goal

pub returns-clause-pushed : goal.returns-clause-pushed
returns-clause-pushed c = pushed_slot _ _ _ _ _ _ _ _ c.args.self.now c.args.name.now c.self.view_is c.in_ok-name.ensures.ok c.requires.new
    c.in_ok-insert.ensures.entries

pub invariant_of-self-2 : goal.invariant_of-self-2
invariant_of-self-2 c =
    subst IsTimetable (sym (pushed_slot _ _ _ _ _ _ _ _ c.args.self.now c.args.name.now c.self.view_is c.in_ok-name.ensures.ok
    c.requires.new c.in_ok-insert.ensures.entries))
    (IsTimetable-push_slot c.args.self.now _ (subst IsTimetable c.self.view_is c.self.invariant) c.requires.new c.requires.room
    c.requires.valid)

pub returns-clause-slot : goal.returns-clause-slot
returns-clause-slot c = c.len-slot.ensures.len
    ∙ slots-count c.self.inside.classed c.self.inside.places.entries c.self.inside.trips.entries c.self.inside.early c.self.inside.late
    c.args.self.now c.self.view_is
