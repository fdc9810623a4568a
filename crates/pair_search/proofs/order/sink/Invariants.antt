use Rattle.std.proofs.Common.{◌≤◌}
use Rattle.std.specs.List.Sorted.{IsPermutation}
use Rattle.pair_search.proofs.order.sink.Given as goal

abbrev pub invariant-loop-at : goal.invariant-loop-at
invariant-loop-at l = record {
  after : l.first ≤ l.at;
  within : l.at ≤ l.place;
  permutation : IsPermutation l.initial.ranks l.ranks;
}

abbrev pub decreases-loop-at : goal.decreases-loop-at
decreases-loop-at l = l.at
