use Rattle.std.proofs.Common.{◌≡◌, [], Ok, get_or, set, refl, replicate, arith}
use Rattle.std.proofs.lemmas.Result.{err_from_is_err_and}
use Rattle.gtfs_tables.specs.declared.paper.Paper.TheVariants as paper
use Rattle.gtfs_tables.specs.Reading.{Fails, filled_in, nothing}
use Rattle.gtfs_tables.proofs.ReadingLemmas.{Fails->>=}
use Rattle.service_days.specs.Calendar.{days_seen, weekday}
use Rattle.service_days.proofs.DayLemmas.{day-seen, none-read, one-read, one-refused}
use Rattle.service_days.proofs.calendar.weekdays_filled.Goals as goal

pub loop-day-init : goal.loop-day-init
loop-day-init c = (
  replicate 7 [],
  none-read (λ day. filled_in paper.Calendar c.args.number (weekday day) (get_or (days_seen c.args.weekdays.now) day []))
      (replicate 7 []) refl,
)

pub returns-in_err-filled_in : goal.returns-in_err-filled_in
returns-in_err-filled_in c =
    let day = c.loop-day.day in
    let p = err_from_is_err_and c.from_residual.result c.from_residual.ensures.1 in
    rw (p.1, p.2) (Fails->>= c.in_err-filled_in.field-0.0 _ (λ _. nothing)
    (one-refused (λ day. filled_in paper.Calendar c.args.number (weekday day) (get_or (days_seen c.args.weekdays.now) day []))
    day c.loop-day.invariant.0 c.in_err-filled_in.field-0.0 c.loop-day.invariant.1 c.loop-day-test.true
    (day-seen (λ text. Fails c.in_err-filled_in.field-0.0 (filled_in paper.Calendar c.args.number (weekday day) text))
    c.args.weekdays.now.texts day _ (omega (arith, c.loop-day-test.true, c.type_inv.weekdays)) c.in_err-filled_in.ensures)))

pub loop-day-preserved : goal.loop-day-preserved
loop-day-preserved c =
    let day = c.loop-day.day in
    let text = c.in_ok-filled_in.field-0.now in (
      set c.loop-day.invariant.0 day text,
      one-read (λ day. filled_in paper.Calendar c.args.number (weekday day) (get_or (days_seen c.args.weekdays.now) day []))
          day c.loop-day.invariant.0 text c.loop-day.invariant.1 c.loop-day-test.true
          (day-seen (λ seen. filled_in paper.Calendar c.args.number (weekday day) seen ≡ Ok text) c.args.weekdays.now.texts day _
          (omega (arith, c.loop-day-test.true, c.type_inv.weekdays)) c.in_ok-filled_in.ensures),
    )
