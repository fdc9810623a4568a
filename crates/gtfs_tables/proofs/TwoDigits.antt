-- A number under `{:02}` is the number in at least two digits.
use Rattle.std.proofs.Common.{◌≡◌, ℕ, ◌-◌, ◌/◌, ◌^◌, ◌<◌, ◌≤◌, List, [], length, false, refl, arith, length-append, inl, inr}
use Rattle.std.specs.Fmt.{decimal, styled_decimal, padded_integral, format_spec, char_count}
use Rattle.std.proofs.lemmas.Fmt.{decimal_digit, decimal_step, decimal_nonempty}
use Rattle.std.proofs.lemmas.List.{append-nil}
use Rattle.std.proofs.lemmas.Bool.{cases_lt, lt-ltb, le-ltb}
use Rattle.gtfs_tables.specs.Times.{two_digits}

-- text of two bytes or more is not padded
wide : (xs : List ℕ) → 2 ≤ length xs → padded_integral (format_spec 32 0 4 2 (2 ^ 64 - 1)) false [] xs ≡ xs
unfolding padded_integral char_count
wide xs long = let none : 2 - length xs - 0 - 0 ≡ 0 = omega arith in rw (none, append-nil xs) refl

-- a number from ten on has two digits or more
long : (n : ℕ) → 10 ≤ n → n < 2 ^ 64 → 2 ≤ length (decimal n)
long n high small =
    let front : n / 10 < 2 ^ 64 = omega arith in
    let some = decimal_nonempty (n / 10) front in
    rw decimal_step (rw length-append (omega (arith, some)))

pub styled-decimal : (n : ℕ) → n < 2 ^ 64 → styled_decimal (format_spec 32 0 4 2 (2 ^ 64 - 1)) n ≡ two_digits n
unfolding padded_integral char_count
styled-decimal n small = elim (cases_lt n 10) [
  | inl low ↦ rw (decimal_digit n low, lt-ltb n 10 low) refl
  | inr high ↦ rw (le-ltb n 10 high) (wide (decimal n) (long n high small))
]
