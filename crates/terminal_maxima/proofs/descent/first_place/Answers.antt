use Rattle.std.proofs.Common.{◌≡◌, ◌+◌, ◌*◌, ◌/◌, ℕ, ℤ, ◌<ℤ◌, ◌≤ℤ◌, FitsSigned, w32, to_z, of_z, drop, subst, sym, ◌∙◌, ap, refl, arith}
use Rattle.std.proofs.lemmas.Int.{ints, to_z-of_z}
use Rattle.terminal_maxima.specs.declared.summary.TheConstants.{LEAVES}
use Rattle.terminal_maxima.specs.Reaching.{IsFirstReaching, NoneReaches, prefix_sum}
use Rattle.terminal_maxima.proofs.Folds.{leaves_count}
use Rattle.terminal_maxima.proofs.SignedSums.{sum_read, sum_fits, within_by_test, above_by_test}
use Rattle.terminal_maxima.proofs.Spans.{span_end}
use Rattle.terminal_maxima.proofs.UpAndDown.{IsClimbing, climbing_begins, climbing_right, climbing_bounds, climbing_passes, climbing_rises}
use Rattle.terminal_maxima.proofs.UpAndDown.{climbing_ends, first_from_start, node_within, node_fits}
use Rattle.terminal_maxima.specs.MaxPrefixLaws.{max_prefix_laws}
use Rattle.terminal_maxima.proofs.descent.first_place.Goals as goal
use Rattle.terminal_maxima.proofs.descent.first_place.Goals.{then-node-eq0+else-sum-right, else-node-eq0}

pub returns-then-sum-value-clause-found : goal.returns-then-sum-value-clause-found
returns-then-sum-value-clause-found c =
    let same_value = to_z-of_z w32 c.args.value c.ranges.value in
    let sum_in_range : FitsSigned w32 c.sum_to-sum.result = record { sfits = c.sum_to-sum.type_inv } in
    let same_sum = to_z-of_z w32 c.sum_to-sum.result sum_in_range in
    let reaches = within_by_test (to_z w32 (of_z w32 c.args.value)) (to_z w32 (of_z w32 c.sum_to-sum.result)) c.if-sum-value.true in
    let sum_is = c.sum_to-sum.ensures ∙ ap (prefix_sum (drop LEAVES c.args.nodes.now)) c.from-leaf.ensures in
    record {
      not_before = omega arith;
      in_range = omega (
        arith,
        leaves_count max_prefix_laws c.args.nodes.now LEAVES 13 c.requires.tree refl (omega arith),
        c.requires.in_range,
      );
      reaches = omega (arith, ints, same_value, same_sum, reaches, sum_is);
      first = λ q after before. absurd (omega arith);
    }

pub loop-height-init : goal.loop-height-init
loop-height-init c =
    let value : ℤ = to_z w32 (of_z w32 c.args.value) in
    let sum : ℤ = to_z w32 (of_z w32 c.sum_to-sum.result) in
    let sum_in_range : FitsSigned w32 c.sum_to-sum.result = record { sfits = c.sum_to-sum.type_inv } in
    let same_sum = to_z-of_z w32 c.sum_to-sum.result sum_in_range in
    let short = above_by_test value sum c.if-sum-value.false in
    let sum_is : sum ≡ prefix_sum (drop LEAVES c.args.nodes.now) c.args.place = same_sum ∙ c.sum_to-sum.ensures
    ∙ ap (prefix_sum (drop LEAVES c.args.nodes.now)) c.from-leaf.ensures in
    let begins = climbing_begins c.args.nodes.now LEAVES 13 c.requires.tree refl (omega arith) c.args.place value sum c.requires.in_range
    sum_is short in
    subst (λ (p : ℕ). IsClimbing LEAVES 13 c.args.nodes.now c.args.place value 0 (LEAVES + p) (p + 1) 1 sum) (sym c.from-leaf.ensures)
    begins

pub bounds-nodes-node : goal.bounds-nodes-node
bounds-nodes-node c =
    let right = climbing_right c.args.nodes.now LEAVES 13 c.requires.tree refl (omega arith) _ _ _ _ _ _ _ c.loop-height-test.true
    c.loop-height.invariant c.if-node-eq0.true in
    node_within c.args.nodes.now LEAVES 13 c.requires.tree refl (omega arith) _ _ _ _ right

pub overflow_add-sum : goal.overflow_add-sum
overflow_add-sum c =
    let right = climbing_right c.args.nodes.now LEAVES 13 c.requires.tree refl (omega arith) _ _ _ _ _ _ _ c.loop-height-test.true
    c.loop-height.invariant c.if-node-eq0.true in
    let fits = node_fits c.args.nodes.now LEAVES 13 c.requires.tree refl (omega arith) _ _ _ _ right in
    let bounds = climbing_bounds c.args.nodes.now LEAVES 13 c.requires.tree refl (omega arith) _ _ _ _ _ _ _ c.loop-height-test.true
    c.loop-height.invariant c.if-node-eq0.true in
    sum_fits _ _ fits.1 bounds.0

pub descend-requires-clause-span : goal.descend-requires-clause-span
descend-requires-clause-span c = (
  c.loop-height._height,
  climbing_right c.args.nodes.now LEAVES 13 c.requires.tree refl (omega arith) _ _ _ _ _ _ _
      c.loop-height-test.true c.loop-height.invariant c.if-node-eq0.true,
)

pub descend-requires-clause-reached : goal.descend-requires-clause-reached
descend-requires-clause-reached c =
    let right = climbing_right c.args.nodes.now LEAVES 13 c.requires.tree refl (omega arith) _ _ _ _ _ _ _ c.loop-height-test.true
    c.loop-height.invariant c.if-node-eq0.true in
    let fits = node_fits c.args.nodes.now LEAVES 13 c.requires.tree refl (omega arith) _ _ _ _ right in
    let bounds = climbing_bounds c.args.nodes.now LEAVES 13 c.requires.tree refl (omega arith) _ _ _ _ _ _ _ c.loop-height-test.true
    c.loop-height.invariant c.if-node-eq0.true in
    subst (λ (x : ℤ). to_z w32 (of_z w32 c.args.value) ≤ℤ x) (sum_read _ _ fits.1 bounds.0) (within_by_test _ _ c.if-sum-right.true)

pub overflow_cast-result : goal.overflow_cast-result
overflow_cast-result c =
    let count = leaves_count max_prefix_laws c.args.nodes.now LEAVES 13 c.requires.tree refl (omega arith) in
    omega (arith, count, c.descend.ensures.in_range)

pub returns-then-sum-right-clause-found : goal.returns-then-sum-right-clause-found
returns-then-sum-right-clause-found c =
    let state = c.loop-height.invariant in
    let found = first_from_start c.args.nodes.now LEAVES 13 c.requires.tree refl (omega arith) c.args.place _ c.loop-height.end
    c.descend.result state.after state.fall_short c.descend.ensures in
    subst (λ (x : ℤ). IsFirstReaching (drop LEAVES c.args.nodes.now) c.args.place x c.descend.result)
    (to_z-of_z w32 c.args.value c.ranges.value) found

pub overflow_add-sum-then-node-eq0 : goal.overflow_add-sum-then-node-eq0
overflow_add-sum-then-node-eq0 c =
    let right = climbing_right c.args.nodes.now LEAVES 13 c.requires.tree refl (omega arith) _ _ _ _ _ _ _ c.loop-height-test.true
    c.loop-height.invariant c.if-node-eq0.true in
    let fits = node_fits c.args.nodes.now LEAVES 13 c.requires.tree refl (omega arith) _ _ _ _ right in
    let bounds = climbing_bounds c.args.nodes.now LEAVES 13 c.requires.tree refl (omega arith) _ _ _ _ _ _ _ c.loop-height-test.true
    c.loop-height.invariant c.if-node-eq0.true in
    sum_fits _ _ fits.0 bounds.1

pub overflow_add-end-then-node-eq0 : goal.overflow_add-end-then-node-eq0
overflow_add-end-then-node-eq0 c =
    let right = climbing_right c.args.nodes.now LEAVES 13 c.requires.tree refl (omega arith) _ _ _ _ _ _ _ c.loop-height-test.true
    c.loop-height.invariant c.if-node-eq0.true in
    let ends = span_end 13 _ _ _ _ right in
    omega (arith, ends.1)

pub loop-height-preserved : goal.loop-height-preserved
loop-height-preserved c =
    let value : ℤ = to_z w32 (of_z w32 c.args.value) in
    let l = c.loop-height in
    elim c.if-node-eq0.branch [
      | then-node-eq0+else-sum-right w ↦
          let right = climbing_right c.args.nodes.now LEAVES 13 c.requires.tree refl (omega arith) _ _ _ _ _ _ _ c.loop-height-test.true
          l.invariant w.if-node-eq0.true in
          let fits = node_fits c.args.nodes.now LEAVES 13 c.requires.tree refl (omega arith) _ _ _ _ right in
          let bounds = climbing_bounds c.args.nodes.now LEAVES 13 c.requires.tree refl (omega arith) _ _ _ _ _ _ _ c.loop-height-test.true
          l.invariant w.if-node-eq0.true in
          let below = subst (λ (x : ℤ). x <ℤ value) (sum_read _ _ fits.1 bounds.0) (above_by_test _ _ w.if-sum-right.false) in
          let next = climbing_passes c.args.nodes.now LEAVES 13 c.requires.tree refl (omega arith) _ _ _ _ _ _ _ c.loop-height-test.true
          l.invariant w.if-node-eq0.true below in
          let same_sum = w.sum-is ∙ sum_read _ _ fits.0 bounds.1 in
          subst (λ (e : ℕ). IsClimbing LEAVES 13 c.args.nodes.now c.args.place value (l._height + 1) (l.node / 2) e (2 * l.width)
          (to_z w32 c.if-node-eq0.sum-bits)) (sym w.end-is)
          (subst (λ (x : ℤ). IsClimbing LEAVES 13 c.args.nodes.now c.args.place value (l._height + 1) (l.node / 2) (l.end + l.width)
          (2 * l.width) x) (sym same_sum) next)
      | else-node-eq0 w ↦
          let next = climbing_rises c.args.nodes.now LEAVES 13 c.requires.tree refl (omega arith) _ _ _ _ _ _ _ c.loop-height-test.true
          l.invariant w.if-node-eq0.false in
          subst (λ (x : ℤ). IsClimbing LEAVES 13 c.args.nodes.now c.args.place value (l._height + 1) (l.node / 2) c.if-node-eq0.end
          (2 * l.width) x) (sym w.sum-is)
          (subst (λ (e : ℕ). IsClimbing LEAVES 13 c.args.nodes.now c.args.place value (l._height + 1) (l.node / 2) e (2 * l.width)
          (to_z w32 l.sum-bits)) (sym w.end-is) next)
    ]

pub returns-clause-none : goal.returns-clause-none
returns-clause-none c =
    let top : c.loop-height._height ≡ 13 = omega (arith, c.loop-height-test.false, c.loop-height.auto._height-end) in
    let value : ℤ = to_z w32 (of_z w32 c.args.value) in
    let state = subst (λ (h : ℕ). IsClimbing LEAVES 13 c.args.nodes.now c.args.place value h c.loop-height.node c.loop-height.end
    c.loop-height.width (to_z w32 c.loop-height.sum-bits)) top c.loop-height.invariant in
    let none = climbing_ends c.args.nodes.now LEAVES 13 c.requires.tree refl (omega arith) c.args.place value c.loop-height.node
    c.loop-height.end c.loop-height.width _ state in
    subst (λ (x : ℤ). NoneReaches (drop LEAVES c.args.nodes.now) c.args.place x) (to_z-of_z w32 c.args.value c.ranges.value) none
