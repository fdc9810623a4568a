use Rattle.std.proofs.Common.{ℕ, List, [], get_or}
use Rattle.gtfs_tables.specs.declared.paper.Paper.TheVariants as paper
use Rattle.gtfs_tables.specs.Reading.{filled_in}
use Rattle.service_days.specs.Calendar.{days_seen, weekday}
use Rattle.service_days.proofs.DayLemmas.{AreRead}
use Rattle.service_days.proofs.calendar.weekdays_filled.Given as goal

abbrev pub invariant-loop-day : goal.invariant-loop-day
invariant-loop-day l = (got : List (List ℕ))
    × AreRead (λ day. filled_in paper.Calendar l.number (weekday day) (get_or (days_seen l.weekdays) day [])) l.day got
