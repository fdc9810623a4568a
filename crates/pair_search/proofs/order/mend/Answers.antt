use Rattle.std.proofs.lemmas.List.Sorted.{IsPermutation-trans}
use Rattle.pair_search.proofs.order.mend.Goals as goal

pub loop-place-preserved : goal.loop-place-preserved
loop-place-preserved c =
    IsPermutation-trans c.args.ranks.now c.loop-place.ranks c.sink-left.new.ranks c.loop-place.invariant c.sink-left.ensures
