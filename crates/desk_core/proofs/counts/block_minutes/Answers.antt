use Rattle.std.proofs.Common.{◌≡◌, ◌∙◌, sym, ap, arith}
use Rattle.pair_graph.specs.Pairs.{pairs_network}
use Rattle.trip_model.proofs.Counting.{sum_below}
use Rattle.desk_core.proofs.CountLemmas.{minutes-counted, round_of, ahead_of}
use Rattle.desk_core.proofs.counts.block_minutes.Goals as goal

pub overflow_sub-result : goal.overflow_sub-result
overflow_sub-result c =
    let n = c.slots-slot-end.result in
    let all : c.loop-slot.slot ≡ n = omega (arith, c.loop-slot-test.false, c.loop-slot.auto.slot-end) in
    let rounds = c.loop-slot.invariant.rounds ∙ ap (sum_below (round_of (pairs_network c.args.pairs.now) c.args.links.now)) all in
    let aheads = c.loop-slot.invariant.aheads ∙ ap (sum_below (ahead_of (pairs_network c.args.pairs.now) c.args.links.now)) all in
    let sums = minutes-counted c.args.pairs.now n _ c.args.links.now c.slots-slot-end.ensures.day c.slots-slot-end.ensures.departures
    c.requires.links (c.requires.slots ∙ sym c.slots-slot-end.ensures.count) in
    omega (arith, rounds, aheads, sums)

pub returns : goal.returns
returns c =
    let n = c.slots-slot-end.result in
    let all : c.loop-slot.slot ≡ n = omega (arith, c.loop-slot-test.false, c.loop-slot.auto.slot-end) in
    let rounds = c.loop-slot.invariant.rounds ∙ ap (sum_below (round_of (pairs_network c.args.pairs.now) c.args.links.now)) all in
    let aheads = c.loop-slot.invariant.aheads ∙ ap (sum_below (ahead_of (pairs_network c.args.pairs.now) c.args.links.now)) all in
    let sums = minutes-counted c.args.pairs.now n _ c.args.links.now c.slots-slot-end.ensures.day c.slots-slot-end.ensures.departures
    c.requires.links (c.requires.slots ∙ sym c.slots-slot-end.ensures.count) in
    omega (arith, rounds, aheads, sums)
