-- A minute that is printed reads as the same minute.
use Rattle.std.proofs.Common.{◌≡◌, ℕ, ◌+◌, ◌-◌, ◌*◌, ◌/◌, ◌%◌, ◌<◌, ◌≤◌, ◌==◌, ◌^◌, ◌∷◌, [], true, false, Some, refl, arith, ap, inl, inr}
use Rattle.std.proofs.lemmas.Bool.{cases_lt, lt-ltb, le-ltb, le-leb, ne_eqb}
use Rattle.std.proofs.lemmas.Fmt.{decimal_digit, decimal_step}
use Rattle.gtfs_tables.specs.Times.{is_pair, minute_digits, minute_of, two_digits}

-- a number below 100 in two digits
two-digits : (n : ℕ) → n < 100 → two_digits n ≡ (48 + n / 10) ∷ (48 + n % 10) ∷ []
two-digits n small = elim (cases_lt n 10) [
  | inl low ↦
      let tens : n / 10 ≡ 0 = omega arith in
      let ones : n % 10 ≡ n = omega arith in
      rw (lt-ltb n 10 low, decimal_digit n low, tens, ones) refl
  | inr high ↦
      let front : n / 10 < 10 = omega arith in
      let wide : n < 2 ^ 64 = omega arith in
      rw (le-ltb n 10 high, decimal_step) (rw (decimal_digit (n / 10) front) refl)
]

pair-true : (most a b : ℕ) → a ≤ most → b ≤ 9 → is_pair (48 + most) (48 + a) (48 + b) ≡ true
pair-true most a b few small =
    rw (
      le-leb 48 (48 + a) (omega arith),
      le-leb (48 + a) (48 + most) (omega arith),
      le-leb 48 (48 + b) (omega arith),
      le-leb (48 + b) 57
          (omega arith),
    ) refl

pub minute-back : (minute : ℕ) → minute ≤ 5999 → minute_of (minute_digits minute) ≡ Some minute
minute-back minute small =
    let hours : minute / 60 < 100 = omega arith in
    let rest : minute % 60 < 60 = omega arith in
    let first : ((48 + minute / 60 / 10) == 32) ≡ false = ne_eqb _ _ (λ e. absurd (omega (arith, e))) in
    let last : ((48 + minute % 60 % 10) == 32) ≡ false = ne_eqb _ _ (λ e. absurd (omega (arith, e))) in
    let value : 60 * (10 * (48 + minute / 60 / 10 - 48) + (48 + minute / 60 % 10 - 48)) + (10 * (48 + minute % 60 / 10 - 48) + (48 + minute
    % 60 % 10 - 48)) ≡ minute = omega arith in
    rw (two-digits (minute / 60) hours, two-digits (minute % 60) (omega arith)) (rw (first, last)
    (rw (
      pair-true 9 (minute / 60 / 10) (minute / 60 % 10) (omega arith) (omega arith),
      pair-true 5 (minute % 60 / 10) (minute % 60 % 10)
          (omega arith) (omega arith),
    )
    (ap Some value)))
