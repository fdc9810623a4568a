-- Which numbers are those of dates.
use Rattle.std.proofs.Common.{◌≡◌, ℕ, ◌<◌, ◌≤◌, ◌^◌, true, ◌&&◌, nat_lt, nat_le, arith}
use Rattle.std.specs.Prelude.{pos}
use Rattle.std.proofs.lemmas.Bool.Decides.{nat_tests}
use Rattle.std.proofs.lemmas.Int.{ints}
use Rattle.jiff_core.specs.Calendar.{days_in_month}
use Rattle.service_days.specs.Dates.{is_date, year_of, month_of, day_of, IsDateNumber}
use Rattle.service_days.specs.Laws.{DatesAreOfTheCalendar}

told-parts : (number month day days : ℕ)
    → (nat_lt number (10 ^ 8) && nat_le 1 month && nat_le month 12 && nat_le 1 day && nat_le day days) ≡ true
    → (number < 10 ^ 8) × (1 ≤ month) × (month ≤ 12) × (1 ≤ day) × (day ≤ days)
told-parts number month day days told =
    (grind (arith, nat_tests), grind (arith, nat_tests), grind (arith, nat_tests), grind (arith, nat_tests), grind (arith, nat_tests))

parts-told : (number month day days : ℕ) → number < 10 ^ 8 → 1 ≤ month → month ≤ 12 → 1 ≤ day → day ≤ days
    → (nat_lt number (10 ^ 8) && nat_le 1 month && nat_le month 12 && nat_le 1 day && nat_le day days) ≡ true
parts-told number month day days small low high first last = grind (arith, nat_tests)

-- what is told to be a date is one
pub date-told : (number : ℕ) → is_date number ≡ true → IsDateNumber number
date-told number told =
    let parts = told-parts number (month_of number) (day_of number) (days_in_month (pos (year_of number)) (month_of number)) told in (
      parts.0,
      (
        (omega (arith, ints), omega (arith, ints)),
        (omega (arith, ints), omega (arith, ints)),
        (omega (arith, ints), omega (arith, ints)),
      ),
    )

-- and a date is told to be one
pub told-date : (number : ℕ) → IsDateNumber number → is_date number ≡ true
told-date number is =
    parts-told number (month_of number) (day_of number) (days_in_month (pos (year_of number)) (month_of number)) is.0 (omega (arith, ints))
    (omega (arith, ints)) (omega (arith, ints)) (omega (arith, ints))

-- so a number is told to be that of a date exactly where it is
pub date-tests : DatesAreOfTheCalendar
date-tests number = (date-told number, told-date number)
