-- A minute that is written is a text that is not empty.
use Rattle.std.proofs.Common.{◌≡◌, ℕ, ◌/◌, ◌%◌, ◌<◌, ◌≤◌, ◌==◌, ◌^◌, false, ◌∷◌, length, Some, inl, inr, ap, ◌∙◌, arith, length-append}
use Rattle.std.specs.Fmt.{decimal}
use Rattle.std.specs.Option.{option_and_then}
use Rattle.std.specs.Str.{IsAscii}
use Rattle.std.proofs.lemmas.Bool.{cases_lt, lt-ltb, le-ltb, ne_eqb}
use Rattle.std.proofs.lemmas.Fmt.{IsAscii-decimal}
use Rattle.std.proofs.lemmas.Str.{IsAscii-append, IsUtf8-from_ascii}
use Rattle.std.proofs.lemmas.Str.Ascii.{IsAscii-cons}
use Rattle.gtfs_tables.specs.Times.{minute_digits, minute_of, two_digits}
use Rattle.gtfs_tables.proofs.Minutes.{minute-back}
use Rattle.edit_script.specs.Forms.{minute_in}
use Rattle.edit_script.proofs.FieldsRead.{text-utf8}

two-ascii : (n : ℕ) → n < 2 ^ 64 → IsAscii (two_digits n)
two-ascii n small = elim (cases_lt n 10) [
  | inl low ↦ rw (lt-ltb n 10 low) (IsAscii-cons 48 (decimal n) (omega arith) (IsAscii-decimal n small))
  | inr high ↦ rw (le-ltb n 10 high) (IsAscii-decimal n small)
]

pub minute-some : (minute : ℕ) → (length (minute_digits minute) == 0) ≡ false
minute-some minute = ne_eqb _ 0 (λ e. absurd (omega (arith, e, length-append (two_digits (minute / 60)) (58 ∷ two_digits (minute % 60)))))

pub minute_in-back : (minute : ℕ) → minute ≤ 5999 → minute_in (minute_digits minute) ≡ Some minute
minute_in-back minute small =
    let ascii : IsAscii (minute_digits minute) =
    IsAscii-append (two_digits (minute / 60)) (58 ∷ two_digits (minute % 60)) (two-ascii (minute / 60) (omega arith))
    (IsAscii-cons 58 (two_digits (minute % 60)) (omega arith) (two-ascii (minute % 60) (omega arith))) in
    ap (option_and_then minute_of) (text-utf8 (minute_digits minute) (IsUtf8-from_ascii (minute_digits minute) ascii))
    ∙ minute-back minute small
