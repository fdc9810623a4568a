-- A shift that is written reads as the same shift.
use Rattle.std.proofs.Common.{◌≡◌, ℕ, suc, ◌+◌, ◌%◌, ◌<◌, ◌≤◌, ◌==◌, ◌&&◌, ◌^◌, not, Bool, true, false, cond, List, [], ◌∷◌, length}
use Rattle.std.proofs.Common.{reverse, ℤ, pos, negsuc, neg_ℤ, Some, None, refl, ap, ◌∙◌, arith}
use Rattle.std.specs.Prelude.{unsigned_abs}
use Rattle.std.specs.Char.{is_ascii_digit}
use Rattle.std.specs.Fmt.{decimal}
use Rattle.std.specs.List.{list_all}
use Rattle.std.specs.Option.{option_map}
use Rattle.std.specs.Str.Parse.{digits_value}
use Rattle.std.proofs.lemmas.Bool.{lt-ltb, le-ltb, le-leb}
use Rattle.std.proofs.lemmas.Bool.Decides.{nat_tests}
use Rattle.std.proofs.lemmas.Fmt.{decimal_is_IsNumeral, decimal_nonempty, length-decimal-le, decimal_by_steps}
use Rattle.std.proofs.lemmas.List.{reverse-reverse, reverse-append}
use Rattle.std.proofs.lemmas.List.Folds.{list_all-append}
use Rattle.gtfs_tables.specs.Spaces.{after_spaces, before_spaces, without_spaces}
use Rattle.gtfs_tables.specs.Numbers.{digits_number}
use Rattle.edit_script.specs.declared.edit.TheConstants.{MOST_SHIFT}
use Rattle.edit_script.specs.Forms.{minutes, shift_in, shiftable, signed}
use Rattle.edit_script.specs.Lines.{signed_text}

and-true : (a b : Bool) → (a && b) ≡ true → (a ≡ true) × (b ≡ true)
and-true true b e = (refl, e)
and-true false b e = cc

true-and : (a b : Bool) → a ≡ true → b ≡ true → (a && b) ≡ true
true-and a b is also = ap (λ a. a && b) is ∙ also

-- a byte is no space
no_space : ℕ → Bool
no_space byte = not (byte == 32)

bare-after : (bytes : List ℕ) → list_all no_space bytes ≡ true → after_spaces bytes ≡ bytes
unfolding no_space
bare-after [] are = refl
bare-after (b ∷ bytes) are =
    let first : not (b == 32) ≡ true = (and-true (not (b == 32)) (list_all no_space bytes) are).0 in
    let other : (b == 32) ≡ false = grind (arith, nat_tests) in
    ap (λ t. cond t (after_spaces bytes) (b ∷ bytes)) other

bare-reverse : (bytes : List ℕ) → list_all no_space bytes ≡ true → list_all no_space (reverse bytes) ≡ true
bare-reverse [] are = refl
bare-reverse (b ∷ bytes) are =
    let parts = and-true (no_space b) (list_all no_space bytes) are in
    ap (list_all no_space) (reverse-append (b ∷ []) bytes)
    ∙ list_all-append no_space (reverse bytes) (b ∷ [])
    ∙ true-and _ _ (bare-reverse bytes parts.1) (true-and _ true parts.0 refl)

-- what has no space has none at its ends
bare : (bytes : List ℕ) → list_all no_space bytes ≡ true → without_spaces bytes ≡ bytes
bare bytes are =
    ap before_spaces (bare-after bytes are)
    ∙ ap reverse (bare-after (reverse bytes) (bare-reverse bytes are))
    ∙ reverse-reverse bytes

digit-no-space : (b : ℕ) → is_ascii_digit b ≡ true → no_space b ≡ true
unfolding no_space
digit-no-space b is =
    let other : (b == 32) ≡ false = grind (arith, nat_tests) in
    ap not other

digits-no-space : (ds : List ℕ) → list_all is_ascii_digit ds ≡ true → list_all no_space ds ≡ true
digits-no-space [] are = refl
digits-no-space (d ∷ ds) are =
    let parts = and-true (is_ascii_digit d) (list_all is_ascii_digit ds) are in
    true-and _ _ (digit-no-space d parts.0) (digits-no-space ds parts.1)

digit-here : (n : ℕ) → n < 10 → is_ascii_digit (48 + n) ≡ true
digit-here n small = grind (arith, nat_tests)

decimal-digits : (n : ℕ) → n < 2 ^ 64 → list_all is_ascii_digit (decimal n) ≡ true
decimal-digits n small =
    decimal_by_steps (λ _ ds. list_all is_ascii_digit ds ≡ true)
    (λ n low. true-and _ true (digit-here n low) refl)
    (λ n ds high so_far. list_all-append is_ascii_digit ds ((48 + n % 10) ∷ [])
    ∙ true-and _ _ so_far (true-and _ true (digit-here (n % 10) (omega arith)) refl))
    n small

-- minutes that are written read as the same minutes
minutes-back : (n : ℕ) → 0 < n → n ≤ MOST_SHIFT → minutes (decimal n) ≡ Some n
minutes-back n some few =
    let wide : n < 2 ^ 64 = omega (arith, few) in
    let ds = decimal n in
    let is_numeral = decimal_is_IsNumeral n wide in
    let number : digits_number 3 ds ≡ Some n =
    ap (λ b. cond b (Some (digits_value 10 ds)) None)
    (true-and _ _ (true-and _ _ (lt-ltb 0 (length ds) (decimal_nonempty n wide))
    (le-leb (length ds) 3 (length-decimal-le 3 n (omega arith) (omega (arith, few)) wide))) (decimal-digits n wide))
    ∙ ap Some is_numeral.1 in
    ap shiftable number
    ∙ ap (λ b. cond b (Some n) None) (true-and _ _ (lt-ltb 0 n some) (le-leb n MOST_SHIFT few))

-- a sign before digits has no space at its ends
signed-bare : (sign n : ℕ) → n < 2 ^ 64 → no_space sign ≡ true → without_spaces (sign ∷ decimal n) ≡ sign ∷ decimal n
signed-bare sign n wide is = bare (sign ∷ decimal n) (true-and _ _ is (digits-no-space (decimal n) (decimal-digits n wide)))

pub shift-back : (by : ℤ) → 0 < unsigned_abs by → unsigned_abs by ≤ MOST_SHIFT → shift_in (signed_text by) ≡ Some by
unfolding no_space
shift-back (pos n) some few =
    let wide : n < 2 ^ 64 = omega (arith, few) in
    ap (λ b. shift_in (cond b 45 43 ∷ decimal n)) (le-ltb n 0 (omega arith))
    ∙ ap signed (signed-bare 43 n wide refl)
    ∙ ap (option_map pos) (minutes-back n some few)
shift-back (negsuc n) some few =
    let wide : suc n < 2 ^ 64 = omega (arith, few) in
    ap signed (signed-bare 45 (suc n) wide refl)
    ∙ ap (option_map (λ n. neg_ℤ (pos n))) (minutes-back (suc n) some few)
