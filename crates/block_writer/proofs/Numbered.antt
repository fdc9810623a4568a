-- The numbers of blocks, slot by slot.
use Rattle.std.proofs.Common.{◌≡◌, ℕ, ◌+◌, ◌<◌, List, [], ◌∷◌, ◌++◌, length, get_or, take, Bool, true, false, cond, Option, Some, None}
use Rattle.std.proofs.Common.{suc, All, refl, sym, ap, subst, ◌∙◌, arith}
use Rattle.std.specs.List.{position_from}
use Rattle.std.specs.Option.{IfSome}
use Rattle.std.proofs.lemmas.List.{ext_get_or, take_more, length-take-le, take_all}
use Rattle.std.proofs.lemmas.List.Elements.{All-from_get_or}
use Rattle.std.proofs.lemmas.List.FromFn.{get_or-map-range_with_len, length-map-range_with_len}
use Rattle.block_writer.specs.Trips.{is_in, number_in, numbered, block_numbers}

-- the first place that passes, with one element more at the end
position-more : {X : Type 0} (p : X → Bool) (i : ℕ) (xs : List X) (x : X) (n : ℕ) → i + length xs ≡ n
    → position_from p i (xs ++ x ∷ []) ≡ numbered (position_from p i xs) (p x) n
position-more p i [] x n at = by (p x) i n (omega arith)
  where
    by : (b : Bool) (i n : ℕ) → i ≡ n → cond b (Some i) None ≡ numbered None b n
    by b i n same = ap (λ (n : ℕ). cond b (Some n) None) same
position-more p i (y ∷ xs) x n at = by (p y) (position-more p (i + 1) xs x n (omega arith))
  where
    by : (b : Bool) → position_from p (i + 1) (xs ++ x ∷ []) ≡ numbered (position_from p (i + 1) xs) (p x) n
        → cond b (Some i) (position_from p (i + 1) (xs ++ x ∷ [])) ≡ numbered (cond b (Some i) (position_from p (i + 1) xs)) (p x) n
    by true rest = refl
    by false rest = rest

-- the number of a slot after one block more
pub number-more : (blocks : List (List ℕ)) (s n : ℕ) → n < length blocks
    → number_in (take (n + 1) blocks) s ≡ numbered (number_in (take n blocks) s) (is_in s (get_or blocks n [])) n
number-more blocks s n within =
    ap (λ xs. number_in xs s) (take_more blocks n [] within)
    ∙ position-more (is_in s) 0 (take n blocks) (get_or blocks n []) n (omega (arith, length-take-le n blocks (omega arith)))

-- the numbers of all slots, from that of each
pub numbers-made : (numbers : List (Option ℕ)) (slots n : ℕ) (blocks : List (List ℕ)) → length numbers ≡ slots → length blocks ≡ n
    → ((s : ℕ) → s < slots → get_or numbers s None ≡ number_in (take n blocks) s) → numbers ≡ block_numbers slots blocks
numbers-made numbers slots n blocks count all each =
    ext_get_or None numbers (block_numbers slots blocks) (count ∙ sym (length-map-range_with_len (number_in blocks) 0 slots))
    (λ s within. each s (omega arith) ∙ ap (λ xs. number_in xs s) (take_all n blocks (omega arith))
    ∙ sym (get_or-map-range_with_len (number_in blocks) 0 slots s s None (omega arith) (omega arith)))

-- there are as many numbers as slots
pub numbers-count : (numbers items : List (Option ℕ)) (slots n : ℕ) (blocks : List (List ℕ)) → numbers ≡ items
    → items ≡ block_numbers n blocks → n ≡ slots → length numbers ≡ slots
numbers-count numbers items slots n blocks same made count = ap length (same ∙ made) ∙ length-map-range_with_len (number_in blocks) 0 n
    ∙ count

-- and each is that of a block
found-within : {X : Type 0} (p : X → Bool) (i : ℕ) (xs : List X) → IfSome (position_from p i xs) (λ n. n < i + length xs)
found-within p i [] = tt
found-within p i (x ∷ xs) = by (p x) (position_from p (i + 1) xs) (found-within p (i + 1) xs)
  where
    by : (b : Bool) (rest : Option ℕ) → IfSome rest (λ n. n < i + 1 + length xs) → IfSome (cond b (Some i) rest) (λ n. n < i + suc (length xs))
    by true rest later = omega arith
    by false None later = tt
    by false (Some n) later = omega (arith, later)

pub numbers-within : (numbers items : List (Option ℕ)) (slots count : ℕ) (blocks : List (List ℕ)) → numbers ≡ items
    → items ≡ block_numbers slots blocks → count ≡ length blocks → All (λ number. IfSome number (λ n. n < count)) numbers
numbers-within numbers items slots count blocks same made counted =
    subst (All (λ number. IfSome number (λ n. n < count))) (sym (same ∙ made))
    (All-from_get_or (λ number. IfSome number (λ n. n < count)) (block_numbers slots blocks) None each)
  where
    by : (found : Option ℕ) → IfSome found (λ n. n < 0 + length blocks) → IfSome found (λ n. n < count)
    by None within = tt
    by (Some n) within = omega (arith, within, counted)

    each : (i : ℕ) → i < length (block_numbers slots blocks) → IfSome (get_or (block_numbers slots blocks) i None) (λ n. n < count)
    each i lt =
        let inside : i < slots = omega (arith, lt, length-map-range_with_len (number_in blocks) 0 slots) in
        subst (λ found. IfSome found (λ n. n < count))
        (sym (get_or-map-range_with_len (number_in blocks) 0 slots i i None inside (omega arith)))
        (by (number_in blocks i) (found-within (is_in i) 0 blocks))
