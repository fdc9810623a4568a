-- The digits of a number, read one after another.
use Rattle.std.proofs.Common.{◌≡◌, ℕ, ◌+◌, ◌-◌, ◌*◌, ◌^◌, ◌<◌, ◌≤◌, List, length, take, get_or, true, refl, arith}
use Rattle.std.specs.List.{list_all}
use Rattle.std.specs.Char.{is_ascii_digit, digit_value}
use Rattle.std.specs.Str.Parse.{digits_value, AllDigits}
use Rattle.std.proofs.lemmas.List.Folds.{list_all_more}
use Rattle.std.proofs.lemmas.Int.Digits.{digits_value_more, digits_value-lt, digits_more}
use Rattle.std.proofs.lemmas.Bool.Decides.{nat_tests}
use Rattle.std.proofs.Math.Nat.{pow-le-pow_right}

-- an ASCII digit stands for its distance from `0`
digit : (c : ℕ) → is_ascii_digit c ≡ true → (digit_value c ≡ c - 48) × (digit_value c < 10)
digit c e = (grind (arith, nat_tests), grind (arith, nat_tests))

-- a number of so many digits is below the power of ten
pub below-power : (n m : ℕ) (digits : List ℕ) → n ≡ digits_value 10 digits → AllDigits 10 digits → length digits ≤ m → n < 10 ^ m
below-power n m digits value all fits =
    let below = digits_value-lt 10 digits all in
    let power : 10 ^ length digits ≤ 10 ^ m = pow-le-pow_right (omega arith) fits in
    omega (arith, value, below, power)

-- one more digit
pub digit-more : (digits : List ℕ) (i n d : ℕ) → i < length digits → is_ascii_digit (get_or digits i 0) ≡ true → d ≡ get_or digits i 0 - 48
    → n ≡ digits_value 10 (take i digits) → AllDigits 10 (take i digits) → list_all is_ascii_digit (take i digits) ≡ true
    → (10 * n + d ≡ digits_value 10 (take (i + 1) digits)) × AllDigits 10 (take (i + 1) digits)
    × (list_all is_ascii_digit (take (i + 1) digits) ≡ true)
digit-more digits i n d within test is_digit value all tests =
    let one = digit (get_or digits i 0) test in (
      omega (arith, digits_value_more 10 digits i within, one.0, value, is_digit),
      digits_more 10 digits i within all one.1,
      rw (list_all_more is_ascii_digit digits i 0 within, tests, test) refl,
    )
