-- Times of the service day: which texts are times, how they round to minutes, and how a minute is printed.
use Rattle.std.specs.Prelude.{ℕ, ◌+◌, ◌-◌, ◌*◌, ◌/◌, ◌%◌, ◌==◌, ◌&&◌, List, [], ◌∷◌, ◌++◌, length, Bool, Option, Some, None, decimal}
use Rattle.std.specs.Prelude.{nat_lt, nat_le, if◌then◌else◌}
use Rattle.gtfs_tables.specs.Spaces.{without_spaces}

-- whether the bytes are two decimal digits, the first of them at most this one
abbrev pub is_pair : ℕ → ℕ → ℕ → Bool
is_pair most tens ones = nat_le 48 tens && nat_le tens most && nat_le 48 ones && nat_le ones 57

-- the value of two decimal digits
abbrev pub pair_value : ℕ → ℕ → ℕ
pair_value tens ones = 10 * (tens - 48) + (ones - 48)

-- `HH:MM:SS` in seconds: two digits, a colon, two digits from 00 to 59, a colon, two digits from 00 to 59
abbrev pub full_time : List ℕ → Option ℕ
full_time (h ∷ i ∷ colon ∷ m ∷ n ∷ other ∷ s ∷ t ∷ []) =
    if is_pair 57 h i && (colon == 58) && is_pair 53 m n && (other == 58) && is_pair 53 s t
    then Some (3600 * pair_value h i + 60 * pair_value m n + pair_value s t) else None
full_time text = None

-- rule: which texts are times
-- the seconds of a time, `HH:MM:SS` or `H:MM:SS`, with spaces round it; the short form is the long one without its leading 0
abbrev pub seconds_of : List ℕ → Option ℕ
seconds_of text = let form = without_spaces text in if length form == 7 then full_time (48 ∷ form) else full_time form

-- `HH:MM` in minutes: two digits, a colon, two digits from 00 to 59
abbrev pub full_minute : List ℕ → Option ℕ
full_minute (h ∷ i ∷ colon ∷ m ∷ n ∷ []) =
    if is_pair 57 h i && (colon == 58) && is_pair 53 m n then Some (60 * pair_value h i + pair_value m n) else None
full_minute text = None

-- rule: which texts are times
-- the minute of `HH:MM` or `H:MM`, with spaces round it; the short form is the long one without its leading 0
abbrev pub minute_of : List ℕ → Option ℕ
minute_of text = let form = without_spaces text in if length form == 4 then full_minute (48 ∷ form) else full_minute form

-- rule: a departure is rounded down to the minute, an arrival up
-- a second as a minute, rounded down
abbrev pub rounded_down : ℕ → ℕ
rounded_down seconds = seconds / 60

-- rule: a departure is rounded down to the minute, an arrival up
-- a second as a minute, rounded up
abbrev pub rounded_up : ℕ → ℕ
rounded_up seconds = (seconds + 59) / 60

-- a number in at least two decimal digits
abbrev pub two_digits : ℕ → List ℕ
two_digits n = if nat_lt n 10 then 48 ∷ decimal n else decimal n

-- a minute of the service day as `HH:MM`, with hours in at least two digits
abbrev pub minute_digits : ℕ → List ℕ
minute_digits minute = two_digits (minute / 60) ++ 58 ∷ two_digits (minute % 60)
