-- Slots have one number where they are of one stated block, and a loop over an order finds the next of each number.
use Rattle.std.proofs.Common.{◌≡◌, ℕ, zero, suc, ◌<◌, ◌≤◌, ◌==◌, Bool, true, false, cond, List, [], ◌∷◌, length, map, get_or, set}
use Rattle.std.proofs.Common.{Option, Some, None, option_and_then, ⊎_elim, refl, sym, ap, ◌∙◌, arith}
use Rattle.std.specs.Prelude.{All, MatchOption}
use Rattle.std.specs.List.{AllByRecursion, range_with_len}
use Rattle.std.specs.Str.{bytes_eq}
use Rattle.std.proofs.lemmas.Bool.{cases_lt, eq-eqb, eqb-true, eqb-false, ne_eqb, true≢false}
use Rattle.std.proofs.lemmas.List.{get_or-set_other, get_or-set_same, length-set}
use Rattle.std.proofs.lemmas.List.Elements.{recursion_from_All}
use Rattle.std.proofs.lemmas.List.FromFn.{fill_by_all, get_or-map-range_with_len, length-map-range_with_len}
use Rattle.std.proofs.lemmas.List.Quantifiers.{position-Some}
use Rattle.std.proofs.lemmas.Slice.Eq.{bytes_eq-Decides}
use Rattle.desk_settings.specs.Selected.{slot_field}
use Rattle.trip_model.specs.Links.{leads_to}
use Rattle.trip_model.specs.Timetable.{number_of}
use Rattle.trip_model.proofs.BeforeLemmas.{position-None}
use Rattle.feed_likings.specs.Alike.{first_of_block, first_with, first_alike, stated_next}
use Rattle.feed_likings.specs.Numbered.{first_numbered, next_numbered, number_at}
use Rattle.feed_likings.proofs.AlikeLemmas.{bytes-itself, field-past}

module _ (names : List (List ℕ)) where
  positive : (n : ℕ) → (n == 0) ≡ false → 0 < n
  positive zero e = absurd cc
  positive (suc n) e = omega arith

  -- a slot that has a number has the field of the slot of that number, and none before that has it
  numbered : (s b : ℕ) → first_alike names s ≡ Some b
      → (number_of names (slot_field names s) ≡ Some b) × (0 < length (slot_field names s))
  numbered s b is = by (length (slot_field names s) == 0) refl is
    where
      by : (empty : Bool) → (length (slot_field names s) == 0) ≡ empty
          → cond empty None (number_of names (slot_field names s)) ≡ Some b
          → (number_of names (slot_field names s) ≡ Some b) × (0 < length (slot_field names s))
      by true e is = absurd cc
      by false e is = (is, positive _ e)

  number-field : (s b : ℕ) → first_alike names s ≡ Some b → slot_field names s ≡ slot_field names b
  number-field s b is =
      let at = position-Some (bytes_eq (slot_field names s)) names b [] (numbered s b is).0 in
      (bytes_eq-Decides (slot_field names s) (slot_field names b)).0 at.1

  -- the number of a slot is no greater than the slot
  number-before : (s b : ℕ) → first_alike names s ≡ Some b → b ≤ s
  number-before s b is = ⊎_elim
      (λ (lt : s < b). absurd (true≢false (sym (bytes-itself (slot_field names s)) ∙ at.2 s lt)))
      (λ (le : b ≤ s). le)
      (cases_lt s b)
    where
      at : (b < length names) × (bytes_eq (slot_field names s) (get_or names b []) ≡ true)
          × ((k : ℕ) → k < b → bytes_eq (slot_field names s) (get_or names k []) ≡ false)
      at = position-Some (bytes_eq (slot_field names s)) names b [] (numbered s b is).0

  -- a slot without a number has no field
  number-none : (s : ℕ) → first_alike names s ≡ None → (slots : List ℕ) → first_of_block names s slots ≡ None
  number-none s none slots = by (length (slot_field names s) == 0) refl none
    where
      by : (empty : Bool) → (length (slot_field names s) == 0) ≡ empty
          → cond empty None (number_of names (slot_field names s)) ≡ None
          → cond empty None (first_with names (slot_field names s) slots) ≡ None
      by true e none = refl
      by false e none = absurd (true≢false (sym (bytes-itself (slot_field names s))
          ∙ position-None (bytes_eq (slot_field names s)) names s [] none (field-past names s (positive _ e))))

  -- two slots have one number where they have one field
  leads-same : (s b : ℕ) → first_alike names s ≡ Some b → (t : ℕ)
      → leads_to b (first_alike names t) ≡ bytes_eq (slot_field names s) (slot_field names t)
  leads-same s b is t = by (bytes_eq (slot_field names s) (slot_field names t)) refl
    where
      other : (o : Option ℕ) → first_alike names t ≡ o → bytes_eq (slot_field names s) (slot_field names t) ≡ false
          → leads_to b o ≡ false
      other None e apart = refl
      other (Some c) e apart = ne_eqb c b (λ same. true≢false (sym ((bytes_eq-Decides (slot_field names s) (slot_field names t)).1
          (number-field s b is ∙ ap (slot_field names) (sym same) ∙ sym (number-field t c e))) ∙ apart))

      by : (same : Bool) → bytes_eq (slot_field names s) (slot_field names t) ≡ same → leads_to b (first_alike names t) ≡ same
      by true e =
          let same = (bytes_eq-Decides (slot_field names s) (slot_field names t)).0 e in
          ap (λ f. leads_to b (cond (length f == 0) None (number_of names f))) (sym same) ∙ ap (leads_to b) is ∙ eq-eqb b b refl
      by false e = other (first_alike names t) refl e

  -- the numbers of so many slots
  abbrev pub numbers_to : ℕ → List (Option ℕ)
  numbers_to n = map (first_alike names) (range_with_len 0 n)

  number_at-to : (n t : ℕ) → t < n → number_at (numbers_to n) t ≡ first_alike names t
  number_at-to n t lt = get_or-map-range_with_len (first_alike names) 0 n t t None lt (omega arith)

  first-numbered : (n s b : ℕ) → first_alike names s ≡ Some b → (slots : List ℕ) → AllByRecursion (λ t. t < n) slots
      → first_numbered (numbers_to n) b slots ≡ first_with names (slot_field names s) slots
  first-numbered n s b is [] within = refl
  first-numbered n s b is (t ∷ slots) within =
      ap (λ o. cond (leads_to b o) (Some t) (first_numbered (numbers_to n) b slots)) (number_at-to n t within.0)
      ∙ ap (λ c. cond c (Some t) (first_numbered (numbers_to n) b slots)) (leads-same s b is t)
      ∙ ap (λ o. cond (bytes_eq (slot_field names s) (slot_field names t)) (Some t) o) (first-numbered n s b is slots within.1)

  -- the first behind a slot by its number is the first of its block
  first-block : (n s : ℕ) → (slots : List ℕ) → AllByRecursion (λ t. t < n) slots → (o : Option ℕ) → first_alike names s ≡ o
      → option_and_then (λ b. first_numbered (numbers_to n) b slots) o ≡ first_of_block names s slots
  first-block n s slots within None is = sym (number-none s is slots)
  first-block n s slots within (Some b) is =
      first-numbered n s b is slots within
      ∙ sym (ap (λ c. cond c None (first_with names (slot_field names s) slots))
      (filled (length (slot_field names s)) (numbered s b is).1))
    where
      filled : (n : ℕ) → 0 < n → (n == 0) ≡ false
      filled n h = ne_eqb n 0 (λ e. omega (arith, e, h))

  next-numbered : (n s : ℕ) → s < n → (order : List ℕ) → AllByRecursion (λ t. t < n) order
      → next_numbered (numbers_to n) order s ≡ stated_next names order s
  next-numbered n s lt [] within = refl
  next-numbered n s lt (t ∷ order) within =
      (λ i. cond (t == s) (here i) (next-numbered n s lt order within.1 i))
    where
      here : option_and_then (λ b. first_numbered (numbers_to n) b order) (number_at (numbers_to n) s)
          ≡ first_of_block names s order
      here = ap (option_and_then (λ b. first_numbered (numbers_to n) b order)) (number_at-to n s lt)
          ∙ first-block n s order within.1 (first_alike names s) refl

  -- the next slots by the numbers are the next trips of stated blocks
  pub nexts-stated : (n : ℕ) (order : List ℕ) → All (λ t. t < n) order
      → map (next_numbered (numbers_to n) order) (range_with_len 0 n) ≡ map (stated_next names order) (range_with_len 0 n)
  nexts-stated n order within = fill_by_all (stated_next names order) _ n None (length-map-range_with_len _ 0 n)
      (λ s lt. get_or-map-range_with_len (next_numbered (numbers_to n) order) 0 n s s None lt (omega arith)
      ∙ next-numbered n s lt order (recursion_from_All (λ t. t < n) order within))

  pub numbers-within : (n s b : ℕ) → number_at (numbers_to n) s ≡ Some b → b < length (numbers_to n)
  numbers-within n s b is = ⊎_elim
      (λ (lt : s < n). let le = number-before s b (sym (number_at-to n s lt) ∙ is) in
      let count = length-map-range_with_len (first_alike names) 0 n in omega (arith, le, lt, count))
      (λ (le : n ≤ s).
      let none = past (numbers_to n) s (omega (arith, le, length-map-range_with_len (first_alike names) 0 n)) in absurd cc)
      (cases_lt s n)
    where
      past : (xs : List (Option ℕ)) (s : ℕ) → length xs ≤ s → number_at xs s ≡ None
      past [] s le = refl
      past (x ∷ xs) zero le = absurd (omega (arith, le))
      past (x ∷ xs) (suc s) le = past xs s (omega (arith, le))

-- what is noted of the slots of the end of an order, where one more comes before them: of each slot the next
pub next-more : (numbers : List (Option ℕ)) (rest : List ℕ) (nexts firsts : List (Option ℕ)) (slot : ℕ) → slot < length nexts
    → ((b : ℕ) → number_at numbers slot ≡ Some b → b < length numbers)
    → ((s : ℕ) → s < length numbers → get_or nexts s None ≡ next_numbered numbers rest s)
    → ((b : ℕ) → b < length numbers → get_or firsts b None ≡ first_numbered numbers b rest)
    → (s : ℕ) → s < length numbers
    → get_or (set nexts slot (option_and_then (number_at firsts) (number_at numbers slot))) s None
    ≡ next_numbered numbers (slot ∷ rest) s
next-more numbers rest nexts firsts slot lt within nexts_are firsts_are s inside = by (slot == s) refl
  where
    new : List (Option ℕ)
    new = set nexts slot (option_and_then (number_at firsts) (number_at numbers slot))

    first : (o : Option ℕ) → number_at numbers slot ≡ o
        → option_and_then (number_at firsts) o ≡ option_and_then (λ b. first_numbered numbers b rest) o
    first None e = refl
    first (Some b) e = firsts_are b (within b e)

    by : (same : Bool) → (slot == s) ≡ same
        → get_or new s None
        ≡ cond same (option_and_then (λ b. first_numbered numbers b rest) (number_at numbers s)) (next_numbered numbers rest s)
    by true e =
        let is = eqb-true slot s e in
        ap (λ t. get_or new t None) (sym is)
        ∙ get_or-set_same nexts slot (option_and_then (number_at firsts) (number_at numbers slot)) None lt
        ∙ first (number_at numbers slot) refl
        ∙ ap (λ t. option_and_then (λ b. first_numbered numbers b rest) (number_at numbers t)) is
    by false e =
        get_or-set_other nexts slot s (option_and_then (number_at firsts) (number_at numbers slot)) None
        (λ is. eqb-false slot s e (sym is))
        ∙ nexts_are s inside

-- and of each number the first
pub first-more : (numbers : List (Option ℕ)) (rest : List ℕ) (firsts new : List (Option ℕ)) (slot : ℕ) (o : Option ℕ)
    → number_at numbers slot ≡ o → ((b : ℕ) → o ≡ Some b → b < length firsts)
    → ((b : ℕ) → b < length numbers → get_or firsts b None ≡ first_numbered numbers b rest)
    → MatchOption o (new ≡ firsts) (λ b. new ≡ set firsts b (Some slot))
    → (b : ℕ) → b < length numbers → get_or new b None ≡ first_numbered numbers b (slot ∷ rest)
first-more numbers rest firsts new slot None is within firsts_are put b inside =
    ap (λ xs. get_or xs b None) put ∙ firsts_are b inside
    ∙ sym (ap (λ o. cond (leads_to b o) (Some slot) (first_numbered numbers b rest)) is)
first-more numbers rest firsts new slot (Some c) is within firsts_are put b inside =
    ap (λ xs. get_or xs b None) put ∙ by (c == b) refl
    ∙ sym (ap (λ o. cond (leads_to b o) (Some slot) (first_numbered numbers b rest)) is)
  where
    by : (same : Bool) → (c == b) ≡ same
        → get_or (set firsts c (Some slot)) b None ≡ cond same (Some slot) (first_numbered numbers b rest)
    by true e =
        ap (λ k. get_or (set firsts c (Some slot)) k None) (sym (eqb-true c b e))
        ∙ get_or-set_same firsts c (Some slot) None (within c refl)
    by false e = get_or-set_other firsts c b (Some slot) None (λ is. eqb-false c b e (sym is)) ∙ firsts_are b inside

-- how many are noted stays
pub first-count : (firsts new : List (Option ℕ)) (slot : ℕ) (o : Option ℕ)
    → MatchOption o (new ≡ firsts) (λ b. new ≡ set firsts b (Some slot)) → length new ≡ length firsts
first-count firsts new slot None put = ap (λ (xs : List (Option ℕ)). length xs) put
first-count firsts new slot (Some c) put = ap (λ (xs : List (Option ℕ)). length xs) put ∙ length-set firsts c (Some slot)
