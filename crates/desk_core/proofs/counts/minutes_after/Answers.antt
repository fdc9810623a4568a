use Rattle.std.proofs.Common.{◌<◌, sym, arith}
use Rattle.pair_graph.specs.Pairs.{pairs_network}
use Rattle.desk_core.proofs.CountLemmas.{next-within}
use Rattle.desk_core.proofs.counts.minutes_after.Goals as goal

pub between-requires-clause-after : goal.between-requires-clause-after
between-requires-clause-after c =
    let within : c.in-Some.next < c.slots-slots.result =
    next-within (pairs_network c.args.pairs.now) c.slots-slots.result _ c.args.links.now c.slots-slots.ensures.day
    c.slots-slots.ensures.departures c.requires.links c.args.slot c.in-Some.next (sym c.in-Some.ensures) in
    omega (arith, within, c.slots-slots.ensures.count)
