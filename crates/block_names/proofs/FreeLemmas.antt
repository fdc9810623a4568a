-- Free names: they differ, and there are enough of them.
use Rattle.std.proofs.Common.{◌≡◌, ◌≢◌, ℕ, zero, suc, ◌+◌, ◌<◌, ◌≤◌, ◌^◌, ◌||◌, Bool, true, false, not, cond, List, [], ◌∷◌}
use Rattle.std.proofs.Common.{length, map, filter, refl, sym, ap, ◌∙◌, arith, length-append}
use Rattle.std.specs.Prelude.{IsUtf8}
use Rattle.std.specs.Fmt.{decimal}
use Rattle.std.specs.List.{AllByRecursion, list_any, range_with_len}
use Rattle.std.specs.Str.{bytes_eq}
use Rattle.std.specs.Str.Parse.{digits_value}
use Rattle.std.proofs.lemmas.Fmt.{decimal_is_IsNumeral_wide, IsAscii-decimal_wide}
use Rattle.std.proofs.lemmas.List.{append_cancel_left}
use Rattle.std.proofs.lemmas.List.Filters.{length-filter_both}
use Rattle.std.proofs.lemmas.List.FromFn.{length-map-range_with_len}
use Rattle.std.proofs.lemmas.Slice.Eq.{bytes_eq-Decides}
use Rattle.std.proofs.lemmas.Str.{IsUtf8-append, IsUtf8-from_ascii}
use Rattle.block_build.specs.Names.{IsName}
use Rattle.block_names.specs.Names.{NamingView, free_names, name_numbered}
use Rattle.block_names.proofs.FilledLemmas.{AreApart, each-weaker}

-- the names of so many numbers from one on
abbrev pub names_numbered : List ℕ → ℕ → ℕ → List (List ℕ)
names_numbered prefix a n = map (name_numbered prefix) (range_with_len a n)

numbers-differ : (prefix : List ℕ) (i j : ℕ) → i < j → j < 10 ^ 64 → name_numbered prefix i ≢ name_numbered prefix j
numbers-differ prefix i j less small e =
    let same = append_cancel_left prefix (decimal i) (decimal j) e in
    let is : i ≡ j = sym (decimal_is_IsNumeral_wide i (omega (arith, less, small))).1 ∙ ap (digits_value 10) same
    ∙ (decimal_is_IsNumeral_wide j small).1 in
    absurd (omega (arith, is, less))

numbers-others : (prefix : List ℕ) (i a n : ℕ) → i < a → a + n ≤ 10 ^ 64
    → AllByRecursion (λ y. name_numbered prefix i ≢ y) (names_numbered prefix a n)
numbers-others prefix i a zero less small = tt
numbers-others prefix i a (suc n) less small =
    (numbers-differ prefix i a less (omega (arith, small)), numbers-others prefix i (a + 1) n (omega (arith, less)) (omega (arith, small)))

numbers-apart : (prefix : List ℕ) (a n : ℕ) → a + n ≤ 10 ^ 64 → AreApart (names_numbered prefix a n)
numbers-apart prefix a zero small = tt
numbers-apart prefix a (suc n) small =
    (numbers-others prefix a (a + 1) n (omega arith) (omega (arith, small)), numbers-apart prefix (a + 1) n (omega (arith, small)))

numbers-names : (prefix : List ℕ) → IsUtf8 prefix → (a n : ℕ) → a + n ≤ 10 ^ 64 → AllByRecursion IsName (names_numbered prefix a n)
numbers-names prefix text a zero small = tt
numbers-names prefix text a (suc n) small =
    let lt : a < 10 ^ 64 = omega (arith, small) in (
      record {
        text = IsUtf8-append prefix (decimal a) text (IsUtf8-from_ascii (decimal a) (IsAscii-decimal_wide a lt));
        filled =
            let digits : 0 < length (decimal a) = (decimal_is_IsNumeral_wide a lt).0.0 in
            omega (arith, digits, length-append prefix (decimal a));
      },
      numbers-names prefix text (a + 1) n (omega (arith, small)),
    )

module _ {X : Type 0} where
  pub filter-each : (P : X → Type 0) (p : X → Bool) (xs : List X) → AllByRecursion P xs → AllByRecursion P (filter p xs)
  filter-each P p [] each = tt
  filter-each P p (x ∷ xs) each = by (p x) (filter-each P p xs each.1)
    where
      by : (b : Bool) → AllByRecursion P (filter p xs) → AllByRecursion P (cond b (x ∷ filter p xs) (filter p xs))
      by true rest = (each.0, rest)
      by false rest = rest

  filter-passes : (p : X → Bool) (xs : List X) → AllByRecursion (λ x. p x ≡ true) (filter p xs)
  filter-passes p [] = tt
  filter-passes p (x ∷ xs) = by (p x) refl (filter-passes p xs)
    where
      by : (b : Bool) → p x ≡ b → AllByRecursion (λ x. p x ≡ true) (filter p xs)
          → AllByRecursion (λ x. p x ≡ true) (cond b (x ∷ filter p xs) (filter p xs))
      by true e rest = (e, rest)
      by false e rest = rest

  pub filter-none : (p : X → Bool) (xs : List X) → AllByRecursion (λ x. p x ≡ false) xs → length (filter p xs) ≡ 0
  filter-none p [] none = refl
  filter-none p (x ∷ xs) none = ap (λ b. length (cond b (x ∷ filter p xs) (filter p xs))) none.0 ∙ filter-none p xs none.1

  filter-either : (p q : X → Bool) (xs : List X)
      → length (filter (λ x. p x || q x) xs) ≤ length (filter p xs) + length (filter q xs)
  filter-either p q [] = omega arith
  filter-either p q (x ∷ xs) = by (p x) (q x) (filter-either p q xs)
    where
      by : (b c : Bool) → length (filter (λ x. p x || q x) xs) ≤ length (filter p xs) + length (filter q xs)
          → length (cond (b || c) (x ∷ filter (λ x. p x || q x) xs) (filter (λ x. p x || q x) xs))
          ≤ length (cond b (x ∷ filter p xs) (filter p xs)) + length (cond c (x ∷ filter q xs) (filter q xs))
      by true true rest = omega (arith, rest)
      by true false rest = omega (arith, rest)
      by false true rest = omega (arith, rest)
      by false false rest = omega (arith, rest)

filter-apart : (p : List ℕ → Bool) (xs : List (List ℕ)) → AreApart xs → AreApart (filter p xs)
filter-apart p [] apart = tt
filter-apart p (x ∷ xs) apart = by (p x) (filter-apart p xs apart.1)
  where
    by : (b : Bool) → AreApart (filter p xs) → AreApart (cond b (x ∷ filter p xs) (filter p xs))
    by true rest = (filter-each (λ y. x ≢ y) p xs apart.0, rest)
    by false rest = rest

-- of names that differ at most one is a name
filter-once : (y : List ℕ) (xs : List (List ℕ)) → AreApart xs → length (filter (λ x. bytes_eq x y) xs) ≤ 1
filter-once y [] apart = omega arith
filter-once y (x ∷ xs) apart = by (bytes_eq x y) refl (filter-once y xs apart.1)
  where
    other : bytes_eq x y ≡ true → (z : List ℕ) → x ≢ z → bytes_eq z y ≡ false
    other same z ne = by (bytes_eq z y) refl
      where
        by : (b : Bool) → bytes_eq z y ≡ b → b ≡ false
        by false e = refl
        by true e = absurd (ne ((bytes_eq-Decides x y).0 same ∙ sym ((bytes_eq-Decides z y).0 e)))

    by : (b : Bool) → bytes_eq x y ≡ b → length (filter (λ x. bytes_eq x y) xs) ≤ 1
        → length (cond b (x ∷ filter (λ x. bytes_eq x y) xs) (filter (λ x. bytes_eq x y) xs)) ≤ 1
    by true e rest =
        let none = filter-none (λ x. bytes_eq x y) xs
        (each-weaker (λ z. x ≢ z) (λ z. bytes_eq z y ≡ false) (other e) xs apart.0) in
        omega (arith, none)
    by false e rest = rest

each-false : (xs : List (List ℕ)) → AllByRecursion (λ x. false ≡ false) xs
each-false [] = tt
each-false (x ∷ xs) = (refl, each-false xs)

-- of names that differ no more are among others than there are others
stated-few : (stated xs : List (List ℕ)) → AreApart xs → length (filter (λ x. list_any (bytes_eq x) stated) xs) ≤ length stated
stated-few [] xs apart = let none = filter-none (λ x. false) xs (each-false xs) in omega (arith, none)
stated-few (y ∷ stated) xs apart =
    let either = filter-either (λ x. bytes_eq x y) (λ x. list_any (bytes_eq x) stated) xs in
    let once = filter-once y xs apart in
    let rest = stated-few stated xs apart in
    omega (arith, either, once, rest)

module _ (naming : NamingView) (count : ℕ) (small : count + length naming.stated < 10 ^ 64) where
  pub free-apart : AreApart (free_names naming count)
  free-apart = filter-apart _ (names_numbered naming.prefix 1 (count + length naming.stated))
      (numbers-apart naming.prefix 1 (count + length naming.stated) (omega (arith, small)))

  pub free-names : IsUtf8 naming.prefix → AllByRecursion IsName (free_names naming count)
  free-names text = filter-each IsName _ (names_numbered naming.prefix 1 (count + length naming.stated))
      (numbers-names naming.prefix text 1 (count + length naming.stated) (omega (arith, small)))

  pub free-new : AllByRecursion (λ name. list_any (bytes_eq name) naming.stated ≡ false) (free_names naming count)
  free-new = each-weaker _ _ (λ name passes. turned (list_any (bytes_eq name) naming.stated) passes) (free_names naming count)
      (filter-passes (λ name. not (list_any (bytes_eq name) naming.stated)) (names_numbered naming.prefix 1 (count + length naming.stated)))
    where
      turned : (b : Bool) → not b ≡ true → b ≡ false
      turned false e = refl
      turned true e = absurd cc

  -- there are enough for all blocks
  pub free-enough : count ≤ length (free_names naming count)
  free-enough =
      let all = names_numbered naming.prefix 1 (count + length naming.stated) in
      let both = length-filter_both (λ name. list_any (bytes_eq name) naming.stated) (λ name. not (list_any (bytes_eq name) naming.stated))
      (λ name. refl) all in
      let few = stated-few naming.stated all (numbers-apart naming.prefix 1 (count + length naming.stated) (omega (arith, small))) in
      let long = length-map-range_with_len (name_numbered naming.prefix) 1 (count + length naming.stated) in
      omega (arith, both, few, long)
