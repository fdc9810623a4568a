use Rattle.std.proofs.Common.{◌≡◌, ◌+◌, drop, slice_set}
use Rattle.terminal_maxima.specs.declared.summary.TheConstants.{LEAVES}
use Rattle.terminal_maxima.proofs.Mending.{IsMending}
use Rattle.terminal_maxima.proofs.nodes.replace_leaf.Given as goal

abbrev pub invariant-loop-height : goal.invariant-loop-height
invariant-loop-height g l = record {
  mending : IsMending g.S.Summary.sums g.S.Summary.empty g.S.Summary.joined LEAVES 13 l.nodes.items l._height l.node;
  leaves : drop LEAVES l.nodes.items ≡ slice_set (drop LEAVES l.fn.nodes.items) l.fn.place l.fn.leaf;
  steps : l.steps ≡ l.fn.steps + 1 + l._height;
}
