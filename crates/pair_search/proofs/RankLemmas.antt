-- Columns whose ranks were sorted are in order.
use Rattle.std.proofs.Common.{◌≡◌, ℕ, suc, ◌+◌, ◌-◌, ◌/◌, ◌%◌, ◌<◌, ◌≤◌, inl, inr, Bool, List, map, length, get_or}
use Rattle.std.proofs.Common.{Option, None, Some, if◌then◌else◌, sym, ap, subst, ◌∙◌, ⊎_elim, arith}
use Rattle.std.specs.List.Sorted.{IsPermutation, IsNonDecreasing}
use Rattle.std.proofs.lemmas.Bool.{cases_eq, cases_lt, eq-eqb, ne_eqb}
use Rattle.std.proofs.lemmas.List.{get_or-map, get_or_default, length-map}
use Rattle.std.proofs.lemmas.List.Sorted.{IsPermutation-map}
use Rattle.pair_search.specs.Arranged.{column_of, post_key, post_of_key, StandsBefore, AreInOrder}
use Rattle.pair_search.specs.Order.{no_column, slot_at, IsRenaming}
use Rattle.pair_search.specs.declared.order.Column.{Column}
use Rattle.pair_search.proofs.ArrangedLemmas.{AreInOrder-next}
use Rattle.pair_search.proofs.OrderLemmas.{AreColumns, AreColumns-sorted}

-- a column of its parts
abbrev column : Option ℕ → ℕ → ℕ → Column
column post minute slot = record { post = post; minute = minute; slot = slot }

key-back : (k : ℕ) → post_key (post_of_key k) ≡ k
key-back k = ⊎_elim
    (λ (e : k ≡ 0). ap (λ (b : Bool). post_key (if b then None else Some (k - 1))) (eq-eqb k 0 e) ∙ sym e)
    (λ (ne : k ≡ 0 → ⊥).
    let more : suc (k - 1) ≡ k = omega (arith, ne) in
    ap (λ (b : Bool). post_key (if b then None else Some (k - 1))) (ne_eqb k 0 ne) ∙ more)
    (cases_eq k 0)

-- a rank that is no lower than that of another slot is of a column behind that one
stands-behind : (q r : ℕ) → (q % 65536 ≡ r % 65536 → ⊥) → q ≤ r → StandsBefore (column_of q) (column_of r)
stands-behind q r ne le = ⊎_elim
    (λ (less : q / 4294967296 < r / 4294967296). inl (omega (arith, less, one, two)))
    (λ (no-less : r / 4294967296 ≤ q / 4294967296).
    let same : q / 4294967296 ≡ r / 4294967296 = omega (arith, no-less, le) in
    inr (
      omega (arith, same, one, two),
      ⊎_elim
          (λ (sooner : q / 65536 % 65536 < r / 65536 % 65536). inl sooner)
          (λ (no-sooner : r / 65536 % 65536 ≤ q / 65536 % 65536).
          let even : q / 65536 % 65536 ≡ r / 65536 % 65536 = omega (arith, same, no-sooner, le) in
          inr (even, omega (arith, same, even, le, ne)))
          (cases_lt (q / 65536 % 65536) (r / 65536 % 65536)),
    ))
    (cases_lt (q / 4294967296) (r / 4294967296))
  where
    one : post_key (post_of_key (q / 4294967296)) ≡ q / 4294967296
    one = key-back (q / 4294967296)

    two : post_key (post_of_key (r / 4294967296)) ≡ r / 4294967296
    two = key-back (r / 4294967296)

column-at : (n : ℕ) (ranks : List ℕ) (k : ℕ) → k < length ranks
    → get_or (map column_of ranks) k (no_column n) ≡ column_of (get_or ranks k 0)
column-at n ranks k lt = get_or-map column_of ranks k 0 (no_column n) lt

-- columns whose ranks rise, and of which no two have one slot, are in order
pub AreInOrder-sorted : (n : ℕ) (ranks : List ℕ) → length ranks ≡ n
    → ((h k : ℕ) → h < n → k < n → slot_at n (map column_of ranks) h ≡ slot_at n (map column_of ranks) k → h ≡ k)
    → IsNonDecreasing ranks → AreInOrder n (map column_of ranks)
AreInOrder-sorted n ranks len apart rise = AreInOrder-next n (map column_of ranks)
    (λ k lt.
    let here = column-at n ranks k (omega (arith, lt, len)) in
    let next = column-at n ranks (k + 1) (omega (arith, lt, len)) in
    subst (λ (c : Column). StandsBefore c (get_or (map column_of ranks) (k + 1) (no_column n))) (sym here)
    (subst (StandsBefore (column_of (get_or ranks k 0))) (sym next)
    (stands-behind (get_or ranks k 0) (get_or ranks (k + 1) 0)
    (λ e. absurd (omega (
      arith,
      apart k (k + 1) (omega (arith, lt)) lt
          (ap (λ (c : Column). c.slot) here ∙ e ∙ sym (ap (λ (c : Column). c.slot) next)),
    )))
    (rise k (k + 1) 0 (omega arith) (omega (arith, lt, len))))))

module _ (n : ℕ) (slot place : ℕ → ℕ) (renaming : IsRenaming n slot place) (ranks sorted : List ℕ) (len : length ranks ≡ n)
    (permutation : IsPermutation ranks sorted) where
  -- the columns of ranks that were listed in some order, and then sorted
  pub AreColumns-ranked : (minute : ℕ → ℕ) (post : ℕ → Option ℕ)
      → ((k d : ℕ) → k < n → column_of (get_or ranks k d) ≡ column (post (slot k)) (minute (slot k)) (slot k))
      → AreColumns n minute post (map column_of sorted)
  AreColumns-ranked minute post each =
      AreColumns-sorted n minute post (map column_of ranks) (map column_of sorted) (IsPermutation-map column_of ranks sorted permutation)
      (record {
        count = length-map ranks column_of ∙ len;
        within = λ k lt. omega (arith, slots k lt, renaming.slot_within k lt);
        minutes = λ k lt. ap (λ (c : Column). c.minute) (here k lt) ∙ ap minute (sym (slots k lt));
        posts = λ k lt. ap (λ (c : Column). c.post) (here k lt) ∙ ap post (sym (slots k lt));
        apart = λ h k lh lk e.
            sym (renaming.back h lh) ∙ ap place (sym (slots h lh) ∙ e ∙ slots k lk) ∙ renaming.back k lk;
        found = λ j lt.
            (place j, renaming.place_within j lt, slots (place j) (renaming.place_within j lt) ∙ renaming.there j lt);
      })
    where
      here : (k : ℕ) → k < n → get_or (map column_of ranks) k (no_column n) ≡ column (post (slot k)) (minute (slot k)) (slot k)
      here k lt = column-at n ranks k (omega (arith, lt, len)) ∙ each k 0 lt

      slots : (k : ℕ) → k < n → slot_at n (map column_of ranks) k ≡ slot k
      slots k lt = ap (λ (c : Column). c.slot) (here k lt)

  -- the same, with the minutes and posts that the ranks tell
  pub AreColumns-own : ((k d : ℕ) → k < n → (column_of (get_or ranks k d)).slot ≡ slot k)
      → AreColumns n (λ j. (column_of (get_or ranks (place j) 0)).minute) (λ j. (column_of (get_or ranks (place j) 0)).post)
      (map column_of sorted)
  AreColumns-own slots =
      AreColumns-ranked (λ j. (column_of (get_or ranks (place j) 0)).minute) (λ j. (column_of (get_or ranks (place j) 0)).post)
      (λ k d lt.
      ap column_of (get_or_default ranks k d 0 (omega (arith, lt, len)))
      ∙ ap (column (column_of (get_or ranks k 0)).post (column_of (get_or ranks k 0)).minute) (slots k 0 lt)
      ∙ ap (λ (h : ℕ). column (column_of (get_or ranks h 0)).post (column_of (get_or ranks h 0)).minute (slot k))
      (sym (renaming.back k lt)))
