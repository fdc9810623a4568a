use Rattle.std.proofs.Common.{arith}
use Rattle.std.proofs.lemmas.List.Sorted.{IsPermutation-trans}
use Rattle.pair_search.proofs.order.sink.Goals as goal

pub loop-at-preserved : goal.loop-at-preserved
loop-at-preserved c = record {
  after = omega (arith, c.loop-at-test.true);
  within = omega (arith, c.loop-at.invariant.within);
  permutation = IsPermutation-trans c.args.ranks.now c.loop-at.ranks c.swap.new.self c.loop-at.invariant.permutation
      c.swap.ensures.permutation;
}
