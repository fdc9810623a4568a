use Rattle.std.proofs.Common.{◌≡◌, ◌∙◌, sym, ap, arith}
use Rattle.pair_graph.specs.Pairs.{pairs_network}
use Rattle.trip_model.proofs.Counting.{sum_below}
use Rattle.desk_core.proofs.CountLemmas.{blocks-counted, one_last}
use Rattle.desk_core.proofs.counts.block_count.Goals as goal

pub returns : goal.returns
returns c =
    let n = c.slots-slot-end.result in
    let all : c.loop-slot.slot ≡ n = omega (arith, c.loop-slot-test.false, c.loop-slot.auto.slot-end) in
    c.loop-slot.invariant.counted ∙ ap (sum_below (one_last (pairs_network c.args.pairs.now) c.args.links.now)) all
    ∙ sym (blocks-counted c.args.pairs.now n _ c.args.links.now c.slots-slot-end.ensures.day c.slots-slot-end.ensures.departures
    c.requires.links (c.requires.slots ∙ sym c.slots-slot-end.ensures.count))
