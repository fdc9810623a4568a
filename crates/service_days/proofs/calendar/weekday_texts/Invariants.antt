use Rattle.std.proofs.Common.{map, get_or}
use Rattle.service_days.specs.Calendar.{text_at, weekday}
use Rattle.service_days.proofs.DayLemmas.{AreRead}
use Rattle.service_days.proofs.calendar.weekday_texts.Given as goal

abbrev pub invariant-loop-day : goal.invariant-loop-day
invariant-loop-day l =
    AreRead (λ day. text_at l.number (weekday day) (get_or l.columns.weekdays day 0) l.row) l.day (map (λ text. text.now) l.texts)
