use Rattle.terminal_maxima.specs.declared.summary.TheConstants.{LEAVES}
use Rattle.terminal_maxima.proofs.UpAndDown.{IsDescending}
use Rattle.terminal_maxima.proofs.descent.descend.Given as goal

abbrev pub invariant-loop-width : goal.invariant-loop-width
invariant-loop-width l = IsDescending LEAVES 13 l.nodes l.fn.first l.fn.value l.node l.first l.width l.before

abbrev pub decreases-loop-width : goal.decreases-loop-width
decreases-loop-width l = l.width
