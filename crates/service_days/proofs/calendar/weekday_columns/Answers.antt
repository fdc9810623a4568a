use Rattle.gtfs_tables.specs.declared.paper.Paper.TheVariants as paper
use Rattle.gtfs_tables.specs.Reading.{column_in}
use Rattle.std.proofs.lemmas.Result.{err_from_is_err_and}
use Rattle.service_days.specs.Calendar.{weekday}
use Rattle.service_days.proofs.DayLemmas.{all-read, one-read, one-refused}
use Rattle.service_days.proofs.calendar.weekday_columns.Goals as goal

pub returns-in_err-places : goal.returns-in_err-places
returns-in_err-places c =
    let p = err_from_is_err_and c.from_residual.result c.from_residual.ensures.1 in
    rw (p.1, p.2) (one-refused (λ day. column_in paper.Calendar (weekday day) c.args.header.now) c.loop-day.day c.loop-day.places
    c.in_err-places.field-0.0 c.loop-day.invariant c.loop-day-test.true c.in_err-places.ensures)

pub loop-day-preserved : goal.loop-day-preserved
loop-day-preserved c =
    one-read (λ day. column_in paper.Calendar (weekday day) c.args.header.now) c.loop-day.day c.loop-day.places
    c.in_ok-places.field-0 c.loop-day.invariant c.loop-day-test.true c.in_ok-places.ensures

pub returns : goal.returns
returns c =
    all-read (λ day. column_in paper.Calendar (weekday day) c.args.header.now) c.loop-day.day c.loop-day.places c.loop-day.invariant
    c.loop-day-test.false
