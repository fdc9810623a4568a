use Rattle.std.proofs.Common.{get_or, map}
use Rattle.std.proofs.lemmas.List.{map-set}
use Rattle.std.proofs.lemmas.Result.{err_from_is_err_and}
use Rattle.service_days.specs.Calendar.{text_at, weekday}
use Rattle.service_days.proofs.DayLemmas.{all-read, one-read, one-refused}
use Rattle.service_days.proofs.calendar.weekday_texts.Goals as goal

pub returns-in_err-texts : goal.returns-in_err-texts
returns-in_err-texts c =
    let p = err_from_is_err_and c.from_residual.result c.from_residual.ensures.1 in
    rw (p.1, p.2) (one-refused (λ day. text_at c.args.number (weekday day) (get_or c.args.columns.now.weekdays day 0) c.args.row.now)
    c.loop-day.day (map (λ text. text.now) c.loop-day.texts)
    c.in_err-texts.field-0.0 c.loop-day.invariant c.loop-day-test.true c.in_err-texts.ensures)

pub loop-day-preserved : goal.loop-day-preserved
loop-day-preserved c =
    rw (map-set (λ text. text.now) c.loop-day.texts c.loop-day.day c.in_ok-texts.field-0)
    (one-read (λ day. text_at c.args.number (weekday day) (get_or c.args.columns.now.weekdays day 0) c.args.row.now)
    c.loop-day.day (map (λ text. text.now) c.loop-day.texts)
    c.in_ok-texts.field-0.now c.loop-day.invariant c.loop-day-test.true c.in_ok-texts.ensures)

pub returns : goal.returns
returns c =
    all-read (λ day. text_at c.args.number (weekday day) (get_or c.args.columns.now.weekdays day 0) c.args.row.now)
    c.loop-day.day (map (λ text. text.now) c.loop-day.texts) c.loop-day.invariant c.loop-day-test.false
