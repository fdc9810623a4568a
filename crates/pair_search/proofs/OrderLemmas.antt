-- Columns that were sorted and numbered are in order.
use Rattle.std.proofs.Common.{◌≡◌, ◌≢◌, ℕ, ◌<◌, ◌==◌, cond, List, length, get_or, Option, refl, sym, ap, ◌∙◌, ⊎_elim, arith}
use Rattle.std.specs.List.{swap}
use Rattle.std.specs.List.Sorted.{IsPermutation}
use Rattle.std.proofs.lemmas.Bool.{cases_eq, eq-eqb, ne_eqb}
use Rattle.std.proofs.lemmas.List.{get_or_past}
use Rattle.std.proofs.lemmas.List.Edits.{swapped_from_swap}
use Rattle.std.proofs.lemmas.List.Sorted.{IsPermutation-keeps, IsPermutation-swap, length_permutation}
use Rattle.pair_search.specs.Order.{no_column, slot_at, place_of, IsOrder}
use Rattle.pair_search.specs.declared.order.Column.{Column}

-- the element that stands at a place after two were swapped stood here
swapped : ℕ → ℕ → ℕ → ℕ
swapped i j m = cond (m == i) j (cond (m == j) i m)

swapped-first : (i j m : ℕ) → m ≡ i → swapped i j m ≡ j
unfolding swapped
swapped-first i j m e = ap (λ t. cond t j (cond (m == j) i m)) (eq-eqb m i e)

swapped-second : (i j m : ℕ) → m ≢ i → m ≡ j → swapped i j m ≡ i
unfolding swapped
swapped-second i j m ne e = ap (λ t. cond t j (cond (m == j) i m)) (ne_eqb m i ne) ∙ ap (λ t. cond t i m) (eq-eqb m j e)

swapped-other : (i j m : ℕ) → m ≢ i → m ≢ j → swapped i j m ≡ m
unfolding swapped
swapped-other i j m ne ne' = ap (λ t. cond t j (cond (m == j) i m)) (ne_eqb m i ne) ∙ ap (λ t. cond t i m) (ne_eqb m j ne')

swapped-within : (n i j m : ℕ) → i < n → j < n → m < n → swapped i j m < n
swapped-within n i j m li lj lm = ⊎_elim
    (λ (e : m ≡ i). omega (arith, swapped-first i j m e, lj))
    (λ (ne : m ≡ i → ⊥). ⊎_elim
    (λ (e : m ≡ j). omega (arith, swapped-second i j m ne e, li))
    (λ (ne' : m ≡ j → ⊥). omega (arith, swapped-other i j m ne ne', lm))
    (cases_eq m j))
    (cases_eq m i)

swapped-twice : (i j m : ℕ) → swapped i j (swapped i j m) ≡ m
swapped-twice i j m = ⊎_elim
    (λ (e : m ≡ i).
    ap (swapped i j) (swapped-first i j m e) ∙ ⊎_elim
    (λ (e' : j ≡ i). swapped-first i j j e' ∙ e' ∙ sym e)
    (λ (ne : j ≡ i → ⊥). swapped-second i j j ne refl ∙ sym e)
    (cases_eq j i))
    (λ (ne : m ≡ i → ⊥). ⊎_elim
    (λ (e : m ≡ j). ap (swapped i j) (swapped-second i j m ne e) ∙ swapped-first i j i refl ∙ sym e)
    (λ (ne' : m ≡ j → ⊥). ap (swapped i j) (swapped-other i j m ne ne') ∙ swapped-other i j m ne ne')
    (cases_eq m j))
    (cases_eq m i)

at-swapped : (d : Column) (xs ys : List Column) (i j : ℕ) → i < length xs → j < length xs → ys ≡ swap xs i j → (m : ℕ)
    → get_or ys m d ≡ get_or xs (swapped i j m) d
at-swapped d xs ys i j li lj is m =
    let s = swapped_from_swap xs ys i j d li lj is in
    ⊎_elim
    (λ (e : m ≡ i). ap (λ k. get_or ys k d) e ∙ s.0 ∙ sym (ap (λ k. get_or xs k d) (swapped-first i j m e)))
    (λ (ne : m ≡ i → ⊥). ⊎_elim
    (λ (e : m ≡ j). ap (λ k. get_or ys k d) e ∙ s.1 ∙ sym (ap (λ k. get_or xs k d) (swapped-second i j m ne e)))
    (λ (ne' : m ≡ j → ⊥). s.2 m ne ne' ∙ sym (ap (λ k. get_or xs k d) (swapped-other i j m ne ne')))
    (cases_eq m j))
    (cases_eq m i)

-- each of so many columns stands once, with its minute and its post
pub record AreColumns (n : ℕ) (minute : ℕ → ℕ) (post : ℕ → Option ℕ) (columns : List Column) : Type 0 where
  pub count : length columns ≡ n
  pub within : (k : ℕ) → k < n → slot_at n columns k < n
  pub minutes : (k : ℕ) → k < n → (get_or columns k (no_column n)).minute ≡ minute (slot_at n columns k)
  pub posts : (k : ℕ) → k < n → (get_or columns k (no_column n)).post ≡ post (slot_at n columns k)
  pub apart : (h k : ℕ) → h < n → k < n → slot_at n columns h ≡ slot_at n columns k → h ≡ k
  pub found : (j : ℕ) → j < n → (k : ℕ) × (k < n) × (slot_at n columns k ≡ j)

AreColumns-swap : (n : ℕ) (minute : ℕ → ℕ) (post : ℕ → Option ℕ) (xs : List Column) (i j : ℕ) → i < length xs → j < length xs
    → AreColumns n minute post xs → AreColumns n minute post (swap xs i j)
AreColumns-swap n minute post xs i j li lj are = record {
  count = length_permutation xs (swap xs i j) (IsPermutation-swap xs (swap xs i j) i j li lj refl) ∙ are.count;
  within = λ k lt. omega (arith, slots k, are.within (swapped i j k) (inside k lt));
  minutes = λ k lt. ap (λ (c : Column). c.minute) (here k) ∙ are.minutes (swapped i j k) (inside k lt) ∙ ap minute (sym (slots k));
  posts = λ k lt. ap (λ (c : Column). c.post) (here k) ∙ are.posts (swapped i j k) (inside k lt) ∙ ap post (sym (slots k));
  apart = λ h k lh lk e.
      let same = are.apart (swapped i j h) (swapped i j k) (inside h lh) (inside k lk) (sym (slots h) ∙ e ∙ slots k) in
      sym (swapped-twice i j h) ∙ ap (swapped i j) same ∙ swapped-twice i j k;
  found = λ s lt.
      let was = are.found s lt in
      (swapped i j was.0, inside was.0 was.1, slots (swapped i j was.0) ∙ ap (slot_at n xs) (swapped-twice i j was.0) ∙ was.2);
}
  where
    here : (k : ℕ) → get_or (swap xs i j) k (no_column n) ≡ get_or xs (swapped i j k) (no_column n)
    here k = at-swapped (no_column n) xs (swap xs i j) i j li lj refl k

    slots : (k : ℕ) → slot_at n (swap xs i j) k ≡ slot_at n xs (swapped i j k)
    slots k = ap (λ (c : Column). c.slot) (here k)

    inside : (k : ℕ) → k < n → swapped i j k < n
    inside k lt = swapped-within n i j k (omega (arith, li, are.count)) (omega (arith, lj, are.count)) lt

-- the columns in another order
pub AreColumns-sorted : (n : ℕ) (minute : ℕ → ℕ) (post : ℕ → Option ℕ) (xs ys : List Column) → IsPermutation xs ys
    → AreColumns n minute post xs → AreColumns n minute post ys
AreColumns-sorted n minute post xs ys permutation are =
    IsPermutation-keeps xs (AreColumns n minute post) are (AreColumns-swap n minute post) ys permutation

-- columns that were sorted and numbered are in order
pub IsOrder-sorted : (n : ℕ) (minute : ℕ → ℕ) (post : ℕ → Option ℕ) (columns : List Column) (places : List ℕ)
    → AreColumns n minute post columns → length places ≡ n
    → ((k : ℕ) → k < n → place_of n places (slot_at n columns k) ≡ k) → IsOrder n minute post columns places
IsOrder-sorted n minute post columns places are len numbered = record {
  count = are.count;
  slots = len;
  renaming = record {
    slot_within = are.within;
    place_within = λ j lt. let was = are.found j lt in omega (arith, at-place j was.0 was.1 was.2, was.1);
    there = λ j lt. let was = are.found j lt in ap (slot_at n columns) (at-place j was.0 was.1 was.2) ∙ was.2;
    back = numbered;
    no_slot = λ k past. let none : slot_at n columns k ≡ n =
        ap (λ (c : Column). c.slot) (get_or_past columns k (no_column n) (omega (arith, past, are.count))) in omega (arith, none);
    no_place = λ j past. let none : place_of n places j ≡ n = get_or_past places j n (omega (arith, past, len)) in omega (arith, none);
  };
  minutes = are.minutes;
  posts = are.posts;
}
  where
    at-place : (j k : ℕ) → k < n → slot_at n columns k ≡ j → place_of n places j ≡ k
    at-place j k lt e = ap (place_of n places) (sym e) ∙ numbered k lt
