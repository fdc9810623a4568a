use Rattle.std.proofs.Common.{◌≡◌, ◌+◌, ◌/◌, ℕ, ℤ, ◌+ℤ◌, FitsSigned, w32, to_z, of_z, subst, sym, ◌∙◌, ap, refl, arith}
use Rattle.std.proofs.lemmas.Int.{to_z-of_z}
use Rattle.terminal_maxima.specs.declared.summary.TheConstants.{LEAVES}
use Rattle.terminal_maxima.proofs.UpAndDown.{IsSummed, summed_begins, summed_step_left, summed_step_right, summed_fits, summed_ends}
use Rattle.terminal_maxima.proofs.UpAndDown.{left_fits}
use Rattle.terminal_maxima.proofs.descent.sum_to.Goals as goal
use Rattle.terminal_maxima.proofs.descent.sum_to.Goals.{then-node-eq1, else-node-eq1}

pub loop-height-init : goal.loop-height-init
loop-height-init c =
    let nodes = c.args.nodes.now in
    let begins = summed_begins nodes LEAVES 13 c.requires.tree refl (omega arith) c.args.place c.requires.in_range in
    let fits = summed_fits nodes LEAVES 13 c.requires.tree refl (omega arith) c.args.place 0 (LEAVES + c.args.place) _ c.requires.in_range
    begins in
    subst (λ (s : ℤ). IsSummed LEAVES 13 nodes c.args.place 0 (LEAVES + c.args.place) s) (sym (to_z-of_z w32 _ fits)) begins

pub bounds-nodes-node-then-node-eq1 : goal.bounds-nodes-node-then-node-eq1
bounds-nodes-node-then-node-eq1 c =
    let state = c.loop-height.invariant in
    (left_fits c.args.nodes.now LEAVES 13 c.requires.tree refl (omega arith) c.loop-height._height c.loop-height.node state.first
    state.width c.loop-height-test.true c.if-node-eq1.true state.span).0

pub overflow_add-sum : goal.overflow_add-sum
overflow_add-sum c =
    let state = c.loop-height.invariant in
    let nodes = c.args.nodes.now in
    let left = left_fits nodes LEAVES 13 c.requires.tree refl (omega arith) c.loop-height._height c.loop-height.node state.first
    state.width c.loop-height-test.true c.if-node-eq1.true state.span in
    let next = summed_step_right nodes LEAVES 13 c.requires.tree refl (omega arith) c.args.place c.loop-height._height c.loop-height.node _
    c.loop-height-test.true c.if-node-eq1.true state in
    let fits = summed_fits nodes LEAVES 13 c.requires.tree refl (omega arith) c.args.place (c.loop-height._height + 1)
    (c.loop-height.node / 2) _ c.requires.in_range next in
    subst (λ (x : ℤ). FitsSigned w32 (to_z w32 c.loop-height.sum-bits +ℤ x)) (sym (to_z-of_z w32 _ left.1)) fits

pub loop-height-preserved : goal.loop-height-preserved
loop-height-preserved c =
    let state = c.loop-height.invariant in
    let nodes = c.args.nodes.now in
    let sum : ℤ = to_z w32 c.loop-height.sum-bits in
    elim c.if-node-eq1.branch [
      | then-node-eq1 w ↦
          let left = left_fits nodes LEAVES 13 c.requires.tree refl (omega arith) c.loop-height._height c.loop-height.node state.first
          state.width c.loop-height-test.true w.if-node-eq1.true state.span in
          let next = summed_step_right nodes LEAVES 13 c.requires.tree refl (omega arith) c.args.place c.loop-height._height
          c.loop-height.node sum c.loop-height-test.true w.if-node-eq1.true state in
          let fits = summed_fits nodes LEAVES 13 c.requires.tree refl (omega arith) c.args.place (c.loop-height._height + 1)
          (c.loop-height.node / 2) _ c.requires.in_range next in
          let value = w.sum-is ∙ ap (λ (x : ℤ). to_z w32 (of_z w32 (sum +ℤ x))) (to_z-of_z w32 _ left.1) ∙ to_z-of_z w32 _ fits in
          subst (λ (x : ℤ). IsSummed LEAVES 13 nodes c.args.place (c.loop-height._height + 1) (c.loop-height.node / 2) x) (sym value) next
      | else-node-eq1 w ↦
          let next = summed_step_left nodes LEAVES 13 c.requires.tree refl (omega arith) c.args.place c.loop-height._height
          c.loop-height.node sum c.loop-height-test.true w.if-node-eq1.false state in
          subst (λ (x : ℤ). IsSummed LEAVES 13 nodes c.args.place (c.loop-height._height + 1) (c.loop-height.node / 2) x) (sym w.sum-is)
          next
    ]

pub returns : goal.returns
returns c =
    let top : c.loop-height._height ≡ 13 = omega (arith, c.loop-height-test.false, c.loop-height.auto._height-end) in
    let nodes = c.args.nodes.now in
    let sum : ℤ = to_z w32 c.loop-height.sum-bits in
    summed_ends nodes LEAVES 13 c.requires.tree refl (omega arith) c.args.place c.loop-height.node sum
    (subst (λ (h : ℕ). IsSummed LEAVES 13 nodes c.args.place h c.loop-height.node sum) top c.loop-height.invariant)
