use Rattle.std.proofs.Common.{drop}
use Rattle.feed_likings.proofs.UnitLemmas.{IsCounted}
use Rattle.feed_likings.proofs.units.unit_of.Given as goal

abbrev pub invariant-loop-other : goal.invariant-loop-other
invariant-loop-other l = IsCounted l.preference l.order l.unit (drop l.other-index l.order)
