use Rattle.std.proofs.Common.{length}
use Rattle.trip_model.specs.Plain.{trip_moves}
use Rattle.trip_model.specs.Timetable.{slot_names}
use Rattle.written_laws.proofs.Again.{written-states-plan}
use Rattle.written_laws.proofs.laws.plan_law.Goals as goal

pub returns : goal.returns
returns c = written-states-plan (λ timetable matrix valid.
    c.deadhead_law.ensures.departures (length timetable.places) (slot_names timetable) (trip_moves timetable.slots) matrix
    (c.plain_law.ensures.moves timetable valid))
