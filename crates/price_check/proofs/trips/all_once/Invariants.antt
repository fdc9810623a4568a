use Rattle.std.proofs.Common.{map}
use Rattle.price_check.specs.Reasons.{twice}
use Rattle.price_check.proofs.First.{NoneBelow}
use Rattle.price_check.proofs.trips.all_once.Given as goal

abbrev pub invariant-loop-at : goal.invariant-loop-at
invariant-loop-at g l = NoneBelow (twice l.paper (map g.R.Record.slot_of l.rows)) l.at
