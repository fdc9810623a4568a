use Rattle.std.proofs.Common.{◌≡◌, ◌≤◌, ◌*◌}
use Rattle.pair_graph.specs.Pairs.{pairs_network}
use Rattle.trip_model.proofs.Counting.{sum_below}
use Rattle.desk_core.proofs.CountLemmas.{round_of, ahead_of}
use Rattle.desk_core.proofs.counts.block_minutes.Given as goal

abbrev pub invariant-loop-slot : goal.invariant-loop-slot
invariant-loop-slot l = record {
  rounds : l.minutes ≡ sum_below (round_of (pairs_network l.pairs) l.links) l.slot;
  aheads : l.ahead ≡ sum_below (ahead_of (pairs_network l.pairs) l.links) l.slot;
  few : l.minutes ≤ 9631 * l.slot;
  fewer : l.ahead ≤ 1440 * l.slot;
}
