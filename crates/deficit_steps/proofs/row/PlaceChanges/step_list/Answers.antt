use Rattle.std.proofs.Common.{◌≡◌, ◌<◌, length, refl, sym, ap, ◌∙◌, arith}
use Rattle.trip_model.proofs.StepsLemmas.{steps_before-zero, steps-at_end}
use Rattle.deficit_steps.specs.Changes.{value_in}
use Rattle.deficit_steps.proofs.LeavesLemmas.{change_read}
use Rattle.deficit_steps.proofs.RowLemmas.{next_sum-fits, next_sum-is, steps_before-same, steps_before-step, change_is_zero}
use Rattle.deficit_steps.proofs.RowLemmas.{change_is_not_zero}
use Rattle.deficit_steps.proofs.row.PlaceChanges.step_list.Goals as goal
use Rattle.deficit_steps.proofs.row.PlaceChanges.step_list.Goals.{then-change-ne0+in_ok-push, else-change-ne0}

pub loop-minute-init : goal.loop-minute-init
loop-minute-init c = record {
  sum = refl;
  steps = c.new-list.ensures.items ∙ sym (steps_before-zero (value_in c.args.self.now));
}

pub overflow_add-value : goal.overflow_add-value
overflow_add-value c =
    let changes = c.args.self.now in
    let read = change_read c.self.inside.tree changes c.loop-minute.minute c.leaf-change.result c.self.view_is
    c.leaf-change.ensures.found in
    let there : c.loop-minute.minute < length changes = omega (arith, c.requires.minutes) in
    next_sum-fits changes c.loop-minute.minute _ _ read c.requires.bounded (omega (arith, c.requires.minutes)) there
    c.loop-minute.invariant.sum

pub loop-minute-preserved : goal.loop-minute-preserved
loop-minute-preserved c =
    let changes = c.args.self.now in
    let n = c.loop-minute.minute in
    let read = change_read c.self.inside.tree changes n c.leaf-change.result c.self.view_is c.leaf-change.ensures.found in
    let there : n < length changes = omega (arith, c.requires.minutes) in
    let next = next_sum-is changes n _ _ read c.requires.bounded (omega (arith, c.requires.minutes)) there c.loop-minute.invariant.sum in
    record {
      sum = next;
      steps = elim c.if-change-ne0.branch [
        | then-change-ne0+in_ok-push w ↦
            let other = change_is_not_zero changes n c.leaf-change.result.sum read w.if-change-ne0.true in
            rw (w.list-is, w.in_ok-push.ensures.items, c.loop-minute.invariant.steps) (sym (steps_before-step _ _ _ there next other))
        | else-change-ne0 w ↦
            let zero = change_is_zero changes n c.leaf-change.result.sum read c.requires.bounded there w.if-change-ne0.false in
            ap (λ l. l.items) w.list-is ∙ c.loop-minute.invariant.steps ∙ sym (steps_before-same _ _ there zero)
      ];
    }

pub returns : goal.returns
returns c =
    let all : c.loop-minute.minute ≡ 8192 = omega arith in
    c.loop-minute.invariant.steps ∙ steps-at_end (value_in c.args.self.now) c.loop-minute.minute all
