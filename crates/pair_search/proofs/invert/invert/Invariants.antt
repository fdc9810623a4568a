use Rattle.pair_search.specs.Inverse.{IsInverse}
use Rattle.pair_search.proofs.invert.invert.Given as goal

abbrev pub invariant-loop-row : goal.invariant-loop-row
invariant-loop-row l = IsInverse l.row l.next l.before
