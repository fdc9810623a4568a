use Rattle.std.proofs.Common.{sym, ap, ◌∙◌}
use Rattle.std.proofs.lemmas.Result.{IfOk-weaker}
use Rattle.desk_run.specs.declared.status.Ending.TheVariants as ending
use Rattle.desk_feed.specs.Edited.{refusing_first}
use Rattle.plan_commands.specs.Check.{claim_outcome, verdict_outcome}
use Rattle.plan_commands.proofs.ProvedLemmas.{proves}
use Rattle.plan_commands.proofs.check.checked.Goals as goal

pub reason_line-requires : goal.reason_line-requires
reason_line-requires c =
    c.told_law.ensures c.args.timetable.now c.args.matrix.now c.in-Ok.claimed c.in-No.reason c.in-Ok.ensures.prices
    (sym c.check.ensures.verdict ∙ c.in-No.is)

pub returns-in-Yes-clause-done : goal.returns-in-Yes-clause-done
returns-in-Yes-clause-done c =
    let refused = c.args.refused.now in
    let verdict = sym c.check.ensures.verdict ∙ c.in-Yes.is in
    let line = c.wrap.ensures ∙ c.in_ok-line-in-Yes.ensures.ok in
    IfOk-weaker c.putting_after-in-Yes.result _ _ (λ outcome is.
    is ∙ ap (λ line. refusing_first refused line ending.Done) line
    ∙ sym (ap (claim_outcome refused c.args.timetable.now c.args.matrix.now) c.in-Ok.ensures.gives
    ∙ ap (verdict_outcome refused c.args.timetable.now c.in-Ok.claimed) verdict)) c.putting_after-in-Yes.ensures

pub returns-in-Err-Memory-clause-proved : goal.returns-in-Err-Memory-clause-proved
returns-in-Err-Memory-clause-proved c =
    proves c.certificate_law.ensures.certificate c.certificate_law.ensures.reasonless c.least_law.ensures c.rows_law.ensures.blocks
    c.rows_law.ensures.prices c.args.timetable.now c.args.matrix.now c.args.blocks.now c.args.prices.now c.slots-slots.ensures.valid
    c.places-places.ensures.valid

pub returns-in_err-line-in-Yes-clause-proved : goal.returns-in_err-line-in-Yes-clause-proved
returns-in_err-line-in-Yes-clause-proved c =
    proves c.certificate_law.ensures.certificate c.certificate_law.ensures.reasonless c.least_law.ensures c.rows_law.ensures.blocks
    c.rows_law.ensures.prices c.args.timetable.now c.args.matrix.now c.args.blocks.now c.args.prices.now c.slots-slots.ensures.valid
    c.places-places.ensures.valid

pub returns-in-Yes-clause-proved : goal.returns-in-Yes-clause-proved
returns-in-Yes-clause-proved c =
    proves c.certificate_law.ensures.certificate c.certificate_law.ensures.reasonless c.least_law.ensures c.rows_law.ensures.blocks
    c.rows_law.ensures.prices c.args.timetable.now c.args.matrix.now c.args.blocks.now c.args.prices.now c.slots-slots.ensures.valid
    c.places-places.ensures.valid

pub returns-in_err-line-in-No-clause-proved : goal.returns-in_err-line-in-No-clause-proved
returns-in_err-line-in-No-clause-proved c =
    proves c.certificate_law.ensures.certificate c.certificate_law.ensures.reasonless c.least_law.ensures c.rows_law.ensures.blocks
    c.rows_law.ensures.prices c.args.timetable.now c.args.matrix.now c.args.blocks.now c.args.prices.now c.slots-slots.ensures.valid
    c.places-places.ensures.valid

pub returns-clause-proved : goal.returns-clause-proved
returns-clause-proved c =
    proves c.certificate_law.ensures.certificate c.certificate_law.ensures.reasonless c.least_law.ensures c.rows_law.ensures.blocks
    c.rows_law.ensures.prices c.args.timetable.now c.args.matrix.now c.args.blocks.now c.args.prices.now c.slots-slots.ensures.valid
    c.places-places.ensures.valid
