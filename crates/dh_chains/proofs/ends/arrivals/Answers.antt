use Rattle.std.proofs.Common.{suc, sym, subst, arith}
use Rattle.dh_chains.specs.Chains.{places_with}
use Rattle.dh_chains.specs.Ends.{EndsFrom}
use Rattle.dh_chains.proofs.EndsLemmas.{passed-all}
use Rattle.dh_chains.proofs.ends.arrivals.Goals as goal

pub loop-from-preserved : goal.loop-from-preserved
loop-from-preserved c = λ d most are.
    let from = c.loop-from.from in
    c.lower_from.ensures d most (subst (EndsFrom (places_with d c.args.matrix.now) most from) (sym c.minute_of.ensures)
    (are from (omega (arith, c.places-from-end.ensures.count, c.loop-from-test.true)))) (c.loop-from.invariant d most are)

pub returns : goal.returns
returns c = λ d most are.
    passed-all (places_with d c.args.matrix.now) (suc most) c.loop-from.minutes c.loop-from.from
    (omega (arith, c.places-from-end.ensures.count)) (c.loop-from.invariant d most are)
