use Rattle.std.specs.List.Sorted.{IsPermutation}
use Rattle.pair_search.proofs.order.mend.Given as goal

abbrev pub invariant-loop-place : goal.invariant-loop-place
invariant-loop-place l = IsPermutation l.initial.ranks l.ranks
