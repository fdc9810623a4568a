use Rattle.pair_search.proofs.AlongLemmas.{IsShiftedUpto}
use Rattle.pair_search.proofs.shift.shift.Given as goal

abbrev pub invariant-loop-place : goal.invariant-loop-place
invariant-loop-place l =
    IsShiftedUpto l.next l.tree.dist.items l.tree.far.items l.tree.rows.items l.grown.size l.grown.end.fall l.place l.initial.leave
    l.initial.enter l.leave l.enter
