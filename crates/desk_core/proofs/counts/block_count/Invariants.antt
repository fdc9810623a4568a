use Rattle.std.proofs.Common.{◌≡◌, ◌≤◌}
use Rattle.pair_graph.specs.Pairs.{pairs_network}
use Rattle.trip_model.proofs.Counting.{sum_below}
use Rattle.desk_core.proofs.CountLemmas.{one_last}
use Rattle.desk_core.proofs.counts.block_count.Given as goal

abbrev pub invariant-loop-slot : goal.invariant-loop-slot
invariant-loop-slot l = record {
  counted : l.count ≡ sum_below (one_last (pairs_network l.pairs) l.links) l.slot;
  few : l.count ≤ l.slot;
}
