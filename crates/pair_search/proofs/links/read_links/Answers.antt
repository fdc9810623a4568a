use Rattle.std.proofs.Common.{None, arith}
use Rattle.std.proofs.lemmas.List.{ext_get_or}
use Rattle.pair_search.proofs.links.read_links.Goals as goal

pub returns : goal.returns
returns c = ext_get_or None _ _ (omega (arith, c.loop-slot.auto.next, c.requires))
    (λ i lt. c.loop-slot.invariant i
    (omega (arith, lt, c.requires, c.loop-slot.auto.next, c.slots-slot-end.ensures.count, c.loop-slot-test.false)))
