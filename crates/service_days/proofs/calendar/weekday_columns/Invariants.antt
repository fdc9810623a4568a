use Rattle.gtfs_tables.specs.declared.paper.Paper.TheVariants as paper
use Rattle.gtfs_tables.specs.Reading.{column_in}
use Rattle.service_days.specs.Calendar.{weekday}
use Rattle.service_days.proofs.DayLemmas.{AreRead}
use Rattle.service_days.proofs.calendar.weekday_columns.Given as goal

abbrev pub invariant-loop-day : goal.invariant-loop-day
invariant-loop-day l = AreRead (λ day. column_in paper.Calendar (weekday day) l.header) l.day l.places
