-- Numbers in decimal digits, as they are read.
use Rattle.std.proofs.Common.{◌≡◌, ℕ, ◌+◌, ◌%◌, ◌<◌, ◌==◌, ◌&&◌, ◌^◌, Bool, true, false, cond, List, [], ◌∷◌, length, reverse, Some, None}
use Rattle.std.proofs.Common.{refl, ap, ◌∙◌, arith}
use Rattle.std.specs.Char.{is_ascii_digit}
use Rattle.std.specs.Fmt.{decimal}
use Rattle.std.specs.List.{list_all}
use Rattle.std.specs.Str.{IsUtf8}
use Rattle.std.specs.Str.Parse.{digits_value}
use Rattle.std.proofs.lemmas.Bool.{lt-ltb, le-leb}
use Rattle.std.proofs.lemmas.Bool.Decides.{nat_tests}
use Rattle.std.proofs.lemmas.Fmt.{decimal_is_IsNumeral, decimal_nonempty, length-decimal-le, decimal_by_steps, IsAscii-decimal}
use Rattle.std.proofs.lemmas.List.{reverse-reverse, reverse-append}
use Rattle.std.proofs.lemmas.List.Folds.{list_all-append}
use Rattle.std.proofs.lemmas.Str.{IsUtf8-from_ascii}
use Rattle.gtfs_tables.specs.Numbers.{digits_number, number_of}
use Rattle.gtfs_tables.specs.Spaces.{after_spaces, before_spaces, without_spaces}

and-true : (a b : Bool) → (a && b) ≡ true → (a ≡ true) × (b ≡ true)
and-true true b e = (refl, e)
and-true false b e = cc

true-and : (a b : Bool) → a ≡ true → b ≡ true → (a && b) ≡ true
true-and a b is also = ap (λ a. a && b) is ∙ also

-- digits have no spaces at their front
digits-after : (ds : List ℕ) → list_all is_ascii_digit ds ≡ true → after_spaces ds ≡ ds
digits-after [] are = refl
digits-after (d ∷ ds) are =
    let first = (and-true (is_ascii_digit d) (list_all is_ascii_digit ds) are).0 in
    let other : (d == 32) ≡ false = grind (arith, nat_tests) in
    ap (λ b. cond b (after_spaces ds) (d ∷ ds)) other

digits-reverse : (ds : List ℕ) → list_all is_ascii_digit ds ≡ true → list_all is_ascii_digit (reverse ds) ≡ true
digits-reverse [] are = refl
digits-reverse (d ∷ ds) are =
    let parts = and-true (is_ascii_digit d) (list_all is_ascii_digit ds) are in
    ap (list_all is_ascii_digit) (reverse-append (d ∷ []) ds)
    ∙ list_all-append is_ascii_digit (reverse ds) (d ∷ [])
    ∙ true-and _ _ (digits-reverse ds parts.1) (true-and _ true parts.0 refl)

-- nor at either end
pub digits-bare : (ds : List ℕ) → list_all is_ascii_digit ds ≡ true → without_spaces ds ≡ ds
digits-bare ds are =
    ap before_spaces (digits-after ds are)
    ∙ ap reverse (digits-after (reverse ds) (digits-reverse ds are))
    ∙ reverse-reverse ds

digit-here : (n : ℕ) → n < 10 → is_ascii_digit (48 + n) ≡ true
digit-here n small = grind (arith, nat_tests)

decimal-digits : (n : ℕ) → n < 2 ^ 64 → list_all is_ascii_digit (decimal n) ≡ true
decimal-digits n small =
    decimal_by_steps (λ _ ds. list_all is_ascii_digit ds ≡ true)
    (λ n low. true-and _ true (digit-here n low) refl)
    (λ n ds high so_far. list_all-append is_ascii_digit ds ((48 + n % 10) ∷ [])
    ∙ true-and _ _ so_far (true-and _ true (digit-here (n % 10) (omega arith)) refl))
    n small

-- a number that is printed reads as the same number
pub number-back : (most n : ℕ) → 0 < most → n < 10 ^ most → n < 2 ^ 64 → number_of most (decimal n) ≡ Some n
number-back most n some fits small =
    let ds = decimal n in
    let is_numeral = decimal_is_IsNumeral n small in
    ap (digits_number most) (digits-bare ds (decimal-digits n small))
    ∙ ap (λ b. cond b (Some (digits_value 10 ds)) None)
    (true-and _ _ (true-and _ _ (lt-ltb 0 (length ds) (decimal_nonempty n small))
    (le-leb (length ds) most (length-decimal-le most n some fits small))) (decimal-digits n small))
    ∙ ap Some is_numeral.1

pub decimal-text : (n : ℕ) → n < 2 ^ 64 → IsUtf8 (decimal n)
decimal-text n small = IsUtf8-from_ascii (decimal n) (IsAscii-decimal n small)
