-- What is promised of the definitions.
use Rattle.std.specs.Prelude.{ℕ, IsTrue, ◌↔◌}
use Rattle.service_days.specs.Dates.{is_date, IsDateNumber}

-- a number is taken for that of a date exactly where the calendar of `jiff` has its day
abbrev pub DatesAreOfTheCalendar : Type 0
DatesAreOfTheCalendar = (number : ℕ) → IsTrue (is_date number) ↔ IsDateNumber number
