use Rattle.std.proofs.Common.{◌+◌, ◌*◌, ◌/◌, ℤ, ◌<ℤ◌, ◌≤ℤ◌, w32, to_z, of_z, drop, subst, sym, ◌∙◌, refl, arith}
use Rattle.std.proofs.lemmas.Int.{ints, to_z-of_z}
use Rattle.terminal_maxima.specs.declared.summary.TheConstants.{LEAVES}
use Rattle.terminal_maxima.specs.Reaching.{IsFirstReaching}
use Rattle.terminal_maxima.proofs.SignedSums.{sum_read, sum_fits, below_by_test, not_below_by_test}
use Rattle.terminal_maxima.proofs.Spans.{span_end}
use Rattle.terminal_maxima.proofs.UpAndDown.{IsDescending, descending_bounds, descends_left, descends_right, descending_ends, left_half}
use Rattle.terminal_maxima.proofs.UpAndDown.{node_within, node_fits}
use Rattle.terminal_maxima.proofs.descent.descend.Goals as goal

pub loop-width-init : goal.loop-width-init
loop-width-init c =
    let same_value = to_z-of_z w32 c.args.value c.ranges.value in
    let same_before = to_z-of_z w32 c.args.before c.ranges.before in
    record {
      height = c.requires.span.0;
      span = c.requires.span.1;
      after = omega arith;
      sum_is = same_before ∙ c.requires.sum;
      short = omega (arith, ints, same_value, same_before, c.requires.short);
      reached = omega (arith, ints, same_value, same_before, c.requires.reached);
      fall_short = λ q after before. absurd (omega arith);
    }

pub bounds-nodes-node : goal.bounds-nodes-node
bounds-nodes-node c =
    let half = left_half c.args.nodes.now LEAVES 13 c.requires.tree refl (omega arith) _ _ _ _ _ _ c.loop-width.invariant
    c.loop-width-test.true in
    node_within c.args.nodes.now LEAVES 13 c.requires.tree refl (omega arith) half.height _ _ _ half.left

pub overflow_add-before : goal.overflow_add-before
overflow_add-before c =
    let half = left_half c.args.nodes.now LEAVES 13 c.requires.tree refl (omega arith) _ _ _ _ _ _ c.loop-width.invariant
    c.loop-width-test.true in
    let left = node_fits c.args.nodes.now LEAVES 13 c.requires.tree refl (omega arith) half.height _ _ _ half.left in
    let bounds = descending_bounds c.args.nodes.now LEAVES 13 c.requires.tree refl (omega arith) _ _ _ _ _ _ c.loop-width.invariant
    c.loop-width-test.true in
    sum_fits _ _ left.1 bounds.0

pub overflow_add-before-then-before-left : goal.overflow_add-before-then-before-left
overflow_add-before-then-before-left c =
    let half = left_half c.args.nodes.now LEAVES 13 c.requires.tree refl (omega arith) _ _ _ _ _ _ c.loop-width.invariant
    c.loop-width-test.true in
    let left = node_fits c.args.nodes.now LEAVES 13 c.requires.tree refl (omega arith) half.height _ _ _ half.left in
    let bounds = descending_bounds c.args.nodes.now LEAVES 13 c.requires.tree refl (omega arith) _ _ _ _ _ _ c.loop-width.invariant
    c.loop-width-test.true in
    sum_fits _ _ left.0 bounds.1

pub overflow_add-first : goal.overflow_add-first
overflow_add-first c =
    let half = left_half c.args.nodes.now LEAVES 13 c.requires.tree refl (omega arith) _ _ _ _ _ _ c.loop-width.invariant
    c.loop-width-test.true in
    let ends = span_end 13 half.height _ _ _ half.left in
    omega (arith, ends.1)

pub loop-width-preserved-then-before-left : goal.loop-width-preserved-then-before-left
loop-width-preserved-then-before-left c =
    let half = left_half c.args.nodes.now LEAVES 13 c.requires.tree refl (omega arith) _ _ _ _ _ _ c.loop-width.invariant
    c.loop-width-test.true in
    let left = node_fits c.args.nodes.now LEAVES 13 c.requires.tree refl (omega arith) half.height _ _ _ half.left in
    let bounds = descending_bounds c.args.nodes.now LEAVES 13 c.requires.tree refl (omega arith) _ _ _ _ _ _ c.loop-width.invariant
    c.loop-width-test.true in
    let value : ℤ = to_z w32 (of_z w32 c.args.value) in
    let below = subst (λ (x : ℤ). x <ℤ value) (sum_read _ _ left.1 bounds.0) (below_by_test _ _ c.if-before-left.true) in
    let next = descends_right c.args.nodes.now LEAVES 13 c.requires.tree refl (omega arith) _ _ _ _ _ _ c.loop-width.invariant
    c.loop-width-test.true below in
    subst (λ (x : ℤ). IsDescending LEAVES 13 c.args.nodes.now c.args.first value (2 * c.loop-width.node + 1)
    (c.loop-width.first + c.loop-width.width / 2) (c.loop-width.width / 2) x) (sym (sum_read _ _ left.0 bounds.1)) next

pub loop-width-preserved : goal.loop-width-preserved
loop-width-preserved c =
    let half = left_half c.args.nodes.now LEAVES 13 c.requires.tree refl (omega arith) _ _ _ _ _ _ c.loop-width.invariant
    c.loop-width-test.true in
    let left = node_fits c.args.nodes.now LEAVES 13 c.requires.tree refl (omega arith) half.height _ _ _ half.left in
    let bounds = descending_bounds c.args.nodes.now LEAVES 13 c.requires.tree refl (omega arith) _ _ _ _ _ _ c.loop-width.invariant
    c.loop-width-test.true in
    let value : ℤ = to_z w32 (of_z w32 c.args.value) in
    let reached = subst (λ (x : ℤ). value ≤ℤ x) (sum_read _ _ left.1 bounds.0) (not_below_by_test _ _ c.if-before-left.false) in
    descends_left c.args.nodes.now LEAVES 13 c.requires.tree refl (omega arith) _ _ _ _ _ _ c.loop-width.invariant c.loop-width-test.true
    reached

pub returns : goal.returns
returns c =
    let found = descending_ends c.args.nodes.now LEAVES 13 c.requires.tree refl (omega arith) _ _ _ _ _ _ c.loop-width.invariant
    c.loop-width-test.false in
    subst (λ (x : ℤ). IsFirstReaching (drop LEAVES c.args.nodes.now) c.args.first x c.loop-width.first)
    (to_z-of_z w32 c.args.value c.ranges.value) found
