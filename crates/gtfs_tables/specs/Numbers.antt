-- Numbers of at most so many decimal digits.
use Rattle.std.specs.Prelude.{ℕ, ◌&&◌, List, length, Option, Some, None, nat_lt, nat_le, if◌then◌else◌}
use Rattle.std.specs.List.{list_all}
use Rattle.std.specs.Char.{is_ascii_digit}
use Rattle.std.specs.Str.Parse.{digits_value}
use Rattle.gtfs_tables.specs.Spaces.{without_spaces}

-- the value of 1 to `most` decimal digits; leading zeros are allowed
abbrev pub digits_number : ℕ → List ℕ → Option ℕ
digits_number most digits =
    if nat_lt 0 (length digits) && nat_le (length digits) most && list_all is_ascii_digit digits
    then Some (digits_value 10 digits) else None

-- rule: which texts are numbers
-- the value of a number of at most `most` digits, with spaces round it
abbrev pub number_of : ℕ → List ℕ → Option ℕ
number_of most text = digits_number most (without_spaces text)
