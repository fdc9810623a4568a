use Rattle.std.proofs.Common.{length}
use Rattle.trip_model.specs.Plain.{trip_moves}
use Rattle.trip_model.specs.Timetable.{slot_names}
use Rattle.block_audit.proofs.StatedLemmas.{stand-in-order}
use Rattle.block_audit.proofs.laws.order_law.Goals as goal

pub returns : goal.returns
returns c = stand-in-order (λ timetable matrix valid.
    c.deadhead_law.ensures.departures (length timetable.places) (slot_names timetable) (trip_moves timetable.slots) matrix
    (c.plain_law.ensures.moves timetable valid))
