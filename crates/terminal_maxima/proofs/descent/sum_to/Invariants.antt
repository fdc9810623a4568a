use Rattle.terminal_maxima.specs.declared.summary.TheConstants.{LEAVES}
use Rattle.terminal_maxima.proofs.UpAndDown.{IsSummed}
use Rattle.terminal_maxima.proofs.descent.sum_to.Given as goal

abbrev pub invariant-loop-height : goal.invariant-loop-height
invariant-loop-height l = IsSummed LEAVES 13 l.nodes l.place l._height l.node l.sum
