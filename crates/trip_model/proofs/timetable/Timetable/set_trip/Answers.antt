use Rattle.std.proofs.Common.{sym, subst}
use Rattle.trip_model.specs.Timetable.{IsTimetable}
use Rattle.trip_model.proofs.SlotLemmas.{IsTimetable-with_trip, written_trip}
use Rattle.trip_model.proofs.timetable.Timetable.set_trip.Goals as goal

pub invariant_of-self : goal.invariant_of-self
invariant_of-self c =
    subst IsTimetable (sym (written_trip _ _ _ _ _ _ c.args.slot c.args.trip c.args.self.now c.self.view_is c.from.ensures))
    (IsTimetable-with_trip c.args.self.now c.args.slot c.args.trip (subst IsTimetable c.self.view_is c.self.invariant) c.requires.valid)

pub returns : goal.returns
returns c = written_trip _ _ _ _ _ _ c.args.slot c.args.trip c.args.self.now c.self.view_is c.from.ensures
