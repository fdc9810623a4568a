use Rattle.terminal_maxima.specs.declared.summary.TheConstants.{LEAVES}
use Rattle.terminal_maxima.proofs.UpAndDown.{IsClimbing}
use Rattle.terminal_maxima.proofs.descent.first_place.Given as goal

abbrev pub invariant-loop-height : goal.invariant-loop-height
invariant-loop-height l = IsClimbing LEAVES 13 l.nodes l.fn.place l.fn.value l._height l.node l.end l.width l.sum
