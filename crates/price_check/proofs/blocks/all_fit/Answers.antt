use Rattle.std.proofs.Common.{◌≡◌, ◌+◌, None, not, sym, ap, ◌∙◌, below_more}
use Rattle.std.specs.Bool.{then_some}
use Rattle.std.proofs.lemmas.List.{get_or_read}
use Rattle.price_check.specs.declared.verdict.Reason.TheVariants.{NotFit}
use Rattle.deadhead_matrix.specs.Fitting.{network_of}
use Rattle.price_check.specs.Reasons.{fit, unfit}
use Rattle.price_check.proofs.First.{none_first, found_first}
use Rattle.price_check.proofs.blocks.all_fit.Goals as goal

pub returns-then-not-fit : goal.returns-then-not-fit
returns-then-not-fit c =
    let network = network_of c.args.timetable.now c.args.matrix.now in
    let row = get_or_read c.args.rows.now c.loop-at.at c.index-rows-at.result c.loop-at-test.true c.index-rows-at.is _ in
    let fits = c.fit.ensures ∙ (λ i. fit network (c.slot_before.ensures i) (row i).slot) in
    found_first _ _ c.loop-at.at _ c.loop-at.invariant c.loop-at-test.true
    (sym (ap (λ b. then_some (not b) (NotFit (c.loop-at.at + 1))) (sym fits ∙ c.if-not-fit.true)))

pub loop-at-preserved : goal.loop-at-preserved
loop-at-preserved c =
    let network = network_of c.args.timetable.now c.args.matrix.now in
    let row = get_or_read c.args.rows.now c.loop-at.at c.index-rows-at.result c.loop-at-test.true c.index-rows-at.is _ in
    let fits = c.fit.ensures ∙ (λ i. fit network (c.slot_before.ensures i) (row i).slot) in
    below_more (λ k. unfit network c.args.rows.now k ≡ None) _ c.loop-at.invariant
    (ap (λ b. then_some (not b) (NotFit (c.loop-at.at + 1))) (sym fits ∙ c.if-not-fit.false))

pub returns : goal.returns
returns c = none_first _ _ c.loop-at.at c.loop-at.invariant c.loop-at-test.false
