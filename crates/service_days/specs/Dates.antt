-- Dates of the calendar, each as the number of its eight digits, YYYYMMDD.
use Rattle.std.specs.Prelude.{ℕ, ◌<◌, ◌^◌, ◌/◌, ◌%◌, ◌==◌, ◌&&◌, pos, Bool, List, length, nat_lt, nat_le, Option, Some, None, Result}
use Rattle.std.specs.Prelude.{if◌then◌else◌}
use Rattle.std.specs.Option.{ok_or}
use Rattle.jiff_core.specs.Calendar.{IsDate, days_in_month, days_from_civil, weekday_number}
use Rattle.gtfs_tables.specs.declared.fault.FeedFault.{FeedFault}
use Rattle.gtfs_tables.specs.declared.fault.FeedFault.TheVariants as fault
use Rattle.gtfs_tables.specs.declared.paper.Column.{Column}
use Rattle.gtfs_tables.specs.declared.paper.Paper.{Paper}
use Rattle.gtfs_tables.specs.Numbers.{number_of}
use Rattle.gtfs_tables.specs.Spaces.{without_spaces}

-- the year of a date
abbrev pub year_of : ℕ → ℕ
year_of date = date / 10000

-- the month of a date, from 1
abbrev pub month_of : ℕ → ℕ
month_of date = date / 100 % 100

-- the day of the month of a date, from 1
abbrev pub day_of : ℕ → ℕ
day_of date = date % 100

-- the number is that of a date, by what `jiff` says of its year, month and day
abbrev pub IsDateNumber : ℕ → Type 0
IsDateNumber date = (date < 10 ^ 8) × IsDate (pos (year_of date)) (pos (month_of date)) (pos (day_of date))

-- whether it is
abbrev pub is_date : ℕ → Bool
is_date date =
    nat_lt date (10 ^ 8) && nat_le 1 (month_of date) && nat_le (month_of date) 12
    && nat_le 1 (day_of date) && nat_le (day_of date) (days_in_month (pos (year_of date)) (month_of date))

-- the day of the week of a date, from 0 for Monday, by what `jiff` says of its day number
abbrev pub weekday_of : ℕ → ℕ
weekday_of date = weekday_number (days_from_civil (pos (year_of date)) (month_of date) (day_of date))

-- the value of eight decimal digits, with spaces round them
abbrev pub eight_digits : List ℕ → Option ℕ
eight_digits text = if length (without_spaces text) == 8 then number_of 8 text else None

-- a number that is that of a date, if there is one
abbrev pub if_date : Option ℕ → Option ℕ
if_date None = None
if_date (Some number) = if is_date number then Some number else None

-- rule: which texts are dates
-- the date of a text: eight digits, with spaces round them
abbrev pub date_of : List ℕ → Option ℕ
date_of text = if_date (eight_digits text)

-- the date in a field of that record and column
abbrev pub date_in : Paper → ℕ → Column → List ℕ → Result ℕ FeedFault
date_in paper number column text = ok_or (date_of text) (fault.BadNumber paper number column)
