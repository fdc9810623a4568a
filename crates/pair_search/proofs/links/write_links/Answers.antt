use Rattle.std.proofs.Common.{None, arith}
use Rattle.std.proofs.lemmas.List.{ext_get_or}
use Rattle.pair_search.proofs.links.write_links.Goals as goal

pub returns : goal.returns
returns c = ext_get_or None _ _ (omega (arith, c.loop-slot.invariant.slots, c.requires))
    (λ i lt. c.loop-slot.invariant.written i
    (omega (arith, lt, c.requires, c.loop-slot.invariant.slots, c.slots-slot-end.ensures.count, c.loop-slot-test.false)))
