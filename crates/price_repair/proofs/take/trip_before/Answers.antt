use Rattle.std.proofs.Common.{sym, arith, ◌∙◌}
use Rattle.price_repair.proofs.BeforeLemmas.{before-none, before-first, found-there}
use Rattle.price_repair.proofs.take.trip_before.Goals as goal

pub returns-then-eq : goal.returns-then-eq
returns-then-eq c = sym (before-first c.args.links.now c.args.slot c.loop-before.before c.loop-before.invariant
    (sym c.next.ensures ∙ found-there c.next.result c.args.slot (sym c.eq.ensures ∙ c.if-eq.true)))

pub returns : goal.returns
returns c = sym (before-none c.args.links.now c.args.slot
    (λ k lt. c.loop-before.invariant k (omega (arith, lt, c.slots-before-end.ensures.count, c.loop-before-test.false))))
