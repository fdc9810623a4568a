use Rattle.std.proofs.Common.{◌≡◌, replicate}
use Rattle.terminal_maxima.proofs.nodes.unit_nodes.Given as goal

abbrev pub invariant-loop-node : goal.invariant-loop-node
invariant-loop-node g l = l.nodes.items ≡ replicate l._node g.S.Summary.empty
