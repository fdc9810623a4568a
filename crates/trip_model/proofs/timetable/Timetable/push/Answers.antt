use Rattle.std.proofs.Common.{sym, subst, ◌∙◌}
use Rattle.trip_model.specs.Timetable.{IsTimetable}
use Rattle.trip_model.proofs.TimetableLemmas.{places-count, pushed_place, IsTimetable-push_place}
use Rattle.trip_model.proofs.timetable.Timetable.push.Goals as goal

pub returns-clause-pushed : goal.returns-clause-pushed
returns-clause-pushed c = pushed_place _ _ _ _ _ _ _ _ c.args.self.now _ _ c.self.view_is c.in_ok-of.ensures c.in_ok-of-2.ensures
    c.requires.new c.in_ok-insert.ensures.entries

pub invariant_of-self-2 : goal.invariant_of-self-2
invariant_of-self-2 c =
    subst IsTimetable (sym (pushed_place _ _ _ _ _ _ _ _ c.args.self.now _ _ c.self.view_is c.in_ok-of.ensures c.in_ok-of-2.ensures
    c.requires.new c.in_ok-insert.ensures.entries))
    (IsTimetable-push_place c.args.self.now _ (subst IsTimetable c.self.view_is c.self.invariant) c.requires.new c.requires.room
    c.requires.place)

pub returns-clause-number : goal.returns-clause-number
returns-clause-number c = c.len-number.ensures.len
    ∙ places-count c.self.inside.classed c.self.inside.places.entries c.self.inside.trips.entries c.self.inside.early c.self.inside.late
    c.args.self.now c.self.view_is
