use Rattle.std.proofs.Common.{[], get_or}
use Rattle.service_days.specs.Calendar.{days_seen, runs_in, weekday}
use Rattle.service_days.proofs.DayLemmas.{AreRead}
use Rattle.service_days.proofs.calendar.weekdays_in.Given as goal

abbrev pub invariant-loop-day : goal.invariant-loop-day
invariant-loop-day l = AreRead (λ day. runs_in l.number (weekday day) (get_or (days_seen l.weekdays) day [])) l.day l.runs
