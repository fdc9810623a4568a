use Rattle.std.proofs.Common.{length}
use Rattle.trip_model.specs.Plain.{trip_moves}
use Rattle.trip_model.specs.Timetable.{slot_names}
use Rattle.written_laws.proofs.Stated.{blocks-are-stated, least-are-stated}
use Rattle.written_laws.proofs.laws.blocks_law.Goals as goal

pub returns-clause-blocks : goal.returns-clause-blocks
returns-clause-blocks c = blocks-are-stated (λ timetable matrix valid.
    c.deadhead_law.ensures.departures (length timetable.places) (slot_names timetable) (trip_moves timetable.slots) matrix
    (c.plain_law.ensures.moves timetable valid))

pub returns-clause-least : goal.returns-clause-least
returns-clause-least c = least-are-stated (λ timetable matrix valid.
    c.deadhead_law.ensures.departures (length timetable.places) (slot_names timetable) (trip_moves timetable.slots) matrix
    (c.plain_law.ensures.moves timetable valid))
