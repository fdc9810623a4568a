use Rattle.std.proofs.Common.{◌≡◌, [], Ok, get_or, arith}
use Rattle.std.proofs.lemmas.Result.{err_from_is_err_and}
use Rattle.gtfs_tables.specs.Reading.{Fails}
use Rattle.service_days.specs.Calendar.{days_seen, runs_in, weekday}
use Rattle.service_days.proofs.DayLemmas.{all-read, day-seen, one-read, one-refused}
use Rattle.service_days.proofs.calendar.weekdays_in.Goals as goal

pub returns-in_err-runs : goal.returns-in_err-runs
returns-in_err-runs c =
    let day = c.loop-day.day in
    let p = err_from_is_err_and c.from_residual.result c.from_residual.ensures.1 in
    rw (p.1, p.2) (one-refused (λ day. runs_in c.args.number (weekday day) (get_or (days_seen c.args.weekdays.now) day []))
    day c.loop-day.runs c.in_err-runs.field-0.0 c.loop-day.invariant c.loop-day-test.true
    (day-seen (λ text. Fails c.in_err-runs.field-0.0 (runs_in c.args.number (weekday day) text)) c.args.weekdays.now.texts day _
    (omega (arith, c.loop-day-test.true, c.type_inv.weekdays)) c.in_err-runs.ensures))

pub loop-day-preserved : goal.loop-day-preserved
loop-day-preserved c =
    let day = c.loop-day.day in
    one-read (λ day. runs_in c.args.number (weekday day) (get_or (days_seen c.args.weekdays.now) day [])) day c.loop-day.runs
    c.in_ok-runs.field-0 c.loop-day.invariant c.loop-day-test.true
    (day-seen (λ text. runs_in c.args.number (weekday day) text ≡ Ok c.in_ok-runs.field-0) c.args.weekdays.now.texts day _
    (omega (arith, c.loop-day-test.true, c.type_inv.weekdays)) c.in_ok-runs.ensures)

pub returns : goal.returns
returns c =
    all-read (λ day. runs_in c.args.number (weekday day) (get_or (days_seen c.args.weekdays.now) day [])) c.loop-day.day c.loop-day.runs
    c.loop-day.invariant c.loop-day-test.false
