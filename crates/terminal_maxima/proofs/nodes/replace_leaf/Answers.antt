use Rattle.std.proofs.Common.{◌≡◌, ◌+◌, ◌/◌, ℕ, List, drop, subst, sym, ◌∙◌, ap, refl, arith}
use Rattle.std.proofs.lemmas.List.{drop-set-lt, drop-set-add}
use Rattle.terminal_maxima.specs.declared.summary.TheConstants.{LEAVES}
use Rattle.terminal_maxima.proofs.Mending.{IsMending, mending_begins, mending_goes_on, mending_ends, children_may_join, children_stand}
use Rattle.terminal_maxima.proofs.Mending.{over_inner}
use Rattle.terminal_maxima.proofs.nodes.replace_leaf.Goals as goal

pub loop-height-init : goal.loop-height-init
loop-height-init g c = record {
  mending = mending_begins g.met.S.Summary.laws LEAVES 13 refl (omega arith) c.args.nodes.now.items c.requires.tree c.args.place
      c.args.leaf c.requires.in_range c.requires.lawful;
  leaves = drop-set-add LEAVES c.args.nodes.now.items c.args.place c.args.leaf;
  steps = omega (arith, c.tick.ensures);
}

pub rejoin-requires-clause-in_range : goal.rejoin-requires-clause-in_range
rejoin-requires-clause-in_range g c =
    let stand = children_stand g.met.S.Summary.laws LEAVES 13 refl (omega arith) c.loop-height.nodes.items c.loop-height._height
    c.loop-height.node c.loop-height-test.true c.loop-height.invariant.mending in
    omega (arith, stand, c.loop-height.nodes.ok.0)

pub rejoin-requires-clause-may_join : goal.rejoin-requires-clause-may_join
rejoin-requires-clause-may_join g c =
    children_may_join g.met.S.Summary.laws LEAVES 13 refl (omega arith) c.loop-height.nodes.items c.loop-height._height c.loop-height.node
    c.loop-height-test.true c.loop-height.invariant.mending

pub loop-height-preserved : goal.loop-height-preserved
loop-height-preserved g c =
    let state = c.loop-height.invariant.mending in
    let nodes = c.loop-height.nodes.items in
    let inner = over_inner g.met.S.Summary.laws LEAVES 13 refl (omega arith) nodes c.loop-height._height c.loop-height.node
    c.loop-height-test.true state in
    record {
      mending = subst (λ (items : List _). IsMending g.S.Summary.sums g.S.Summary.empty g.S.Summary.joined LEAVES 13 items
          (c.loop-height._height + 1) (c.loop-height.node / 2)) (sym c.rejoin.ensures)
          (mending_goes_on g.met.S.Summary.laws LEAVES 13 refl (omega arith) nodes c.loop-height._height c.loop-height.node
          c.loop-height-test.true state);
      leaves = ap (drop LEAVES) c.rejoin.ensures ∙ drop-set-lt LEAVES nodes (c.loop-height.node / 2) _ inner.1
          ∙ c.loop-height.invariant.leaves;
      steps = omega (arith, c.tick-in-loop-height.ensures, c.loop-height.invariant.steps);
    }

pub returns-clause-tree : goal.returns-clause-tree
returns-clause-tree g c =
    let top : c.loop-height._height ≡ 13 = omega (arith, c.loop-height-test.false, c.loop-height.auto._height-end) in
    mending_ends g.met.S.Summary.laws LEAVES 13 refl (omega arith) c.loop-height.nodes.items c.loop-height.node
    (subst (λ (h : ℕ). IsMending g.S.Summary.sums g.S.Summary.empty g.S.Summary.joined LEAVES 13 c.loop-height.nodes.items h
    c.loop-height.node) top c.loop-height.invariant.mending)
