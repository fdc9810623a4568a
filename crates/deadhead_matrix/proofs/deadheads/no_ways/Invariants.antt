use Rattle.std.proofs.Common.{◌≡◌, replicate}
use Rattle.deadhead_matrix.proofs.deadheads.no_ways.Given as goal

abbrev pub invariant-loop-place : goal.invariant-loop-place
invariant-loop-place l = l.ways.items ≡ replicate l._place (replicate l.places 0)
