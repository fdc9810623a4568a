use Rattle.std.proofs.Common.{map}
use Rattle.price_check.specs.Reasons.{missing}
use Rattle.price_check.proofs.First.{NoneBelow}
use Rattle.price_check.proofs.trips.none_missing.Given as goal

abbrev pub invariant-loop-slot : goal.invariant-loop-slot
invariant-loop-slot g l = NoneBelow (missing l.timetable l.paper (map g.R.Record.slot_of l.rows)) l.slot
