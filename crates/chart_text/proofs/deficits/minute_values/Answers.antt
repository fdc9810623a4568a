use Rattle.std.proofs.Common.{◌≡◌, suc, ◌+◌, ◌-◌, length, get_or, take, drop, pos, ap, ◌∙◌, arith, rules}
use mir.Val.{to_z, SFits}
use mir.Syntax.{w32}
use borrow.Author.Tests.{ltb-true}
use Rattle.std.proofs.lemmas.Int.{to_z-of_z}
use Rattle.std.proofs.lemmas.List.{length-drop, take_all}
use Rattle.deficit_steps.specs.Changes.{value}
use Rattle.chart_text.proofs.StepsLemmas.{steps_from, IsReadBefore-start, IsReadBefore-next, read-step, read-none}
use Rattle.chart_text.proofs.deficits.minute_values.Goals as goal
use Rattle.chart_text.proofs.deficits.minute_values.Goals.{in-len1-up+then-step-minute, else-rest-lt1, else-rest-lt1-via-then-rest-lt1}
use Rattle.chart_text.proofs.deficits.minute_values.Goals.{else-rest-lt1-via-in-len1-up+else-step-minute}

pub loop-minute-init : goal.loop-minute-init
loop-minute-init c =
    IsReadBefore-start (value c.args.deficits.now c.args.place) c.as_slice-rest.result.now c.in_ok-values.values.items
    (c.as_slice-rest.ensures.value ∙ c.in_ok-steps.ensures) c.in_ok-values.ensures.items

pub loop-minute-preserved : goal.loop-minute-preserved
loop-minute-preserved c =
    let d = value c.args.deficits.now c.args.place in
    let minute = c.loop-minute.minute in
    let rest = c.loop-minute.rest.now in
    let end : 8192 - minute ≡ suc (8192 - (minute + 1)) = omega arith in
    let is = c.loop-minute.invariant.rest_is ∙ ap (steps_from d minute) end in
    let next = IsReadBefore-next d minute rest c.if-rest-lt1.rest.now (to_z w32 c.loop-minute.value-bits)
    (to_z w32 c.if-rest-lt1.value-bits) c.loop-minute.values.items c.push.new.self.items c.loop-minute.invariant in
    elim c.if-rest-lt1.branch [
      | in-len1-up+then-step-minute w ↦
          let read = read-step d minute (8192 - (minute + 1)) rest is w.in-len1-up.len_at_least w.if-step-minute.true in
          let fits : SFits w32 (get_or rest 0 (0, pos 0)).1 = search rules in
          let gone : c.if-rest-lt1.rest.now ≡ take (length rest - 1) (drop 1 rest) = ap (λ r. r.now) w.rest-is in
          let all : take (length rest - 1) (drop 1 rest) ≡ drop 1 rest =
          take_all (length rest - 1) (drop 1 rest) (omega (arith, length-drop 1 rest)) in
          next (gone ∙ all ∙ read.1) (w.value-is ∙ to_z-of_z w32 _ fits ∙ read.0) c.in_ok-push.ensures.items
      | else-rest-lt1 w ↦
          let none = read-none d minute (8192 - (minute + 1)) rest is (elim w.else-rest-lt1.branch [
            | else-rest-lt1-via-then-rest-lt1 w' ↦ λ some here. absurd (omega (arith, ltb-true))
            | else-rest-lt1-via-in-len1-up+else-step-minute w' ↦ λ some here. w'.if-step-minute.false here
          ]) in
          next (ap (λ r. r.now) w.rest-is ∙ none.1) (w.value-is ∙ c.loop-minute.invariant.value_is ∙ none.0) c.in_ok-push.ensures.items
    ]
