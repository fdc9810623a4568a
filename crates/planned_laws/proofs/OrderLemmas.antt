-- Slots in order by keys are all slots, each once. So an order renames them.
use Rattle.std.proofs.Common.{◌≡◌, ◌≢◌, ℕ, zero, suc, ◌+◌, ◌<◌, ◌≤◌, ◌==◌, nat_le, nat_lt, Bool, true, false, cond, List, [], ◌∷◌, length}
use Rattle.std.proofs.Common.{get_or, filter, fold, sum_by, position, Option, None, Some, if◌then◌else◌, refl, sym, ap, subst, ◌∙◌, ⊎_elim}
use Rattle.std.proofs.Common.{arith}
use Rattle.std.specs.List.{range_with_len}
use Rattle.std.specs.Prelude.{unwrap_or}
use Rattle.std.proofs.lemmas.Bool.{cases_eq, cases_lt, eq-eqb, ne_eqb, eqb-true, false≢true, lt-ltb, le-ltb, ltb-true}
use Rattle.std.proofs.lemmas.List.{get_or_past}
use Rattle.std.proofs.lemmas.List.FromFn.{length-range_with_len}
use Rattle.std.proofs.lemmas.List.Quantifiers.{position-Some}
use Rattle.std.proofs.lemmas.List.Sums.{sum_by-cons}
use Rattle.trip_model.specs.Blocking.{StandsOnce, times}
use Rattle.trip_model.specs.Order.{placed_by, by_key}
use Rattle.trip_model.proofs.BeforeLemmas.{position-None}
use Rattle.trip_model.proofs.Counting.{StandsOnce-filter_range, length-ones, times-cons}
use Rattle.pair_graph.specs.Pairs.{PairsView}
use Rattle.pair_search.specs.Arranged.{arranged, departing, place_in, slot_in, post_key}
use Rattle.pair_search.specs.Order.{IsRenaming}
use Rattle.pair_search.specs.Side.{pairs_minute, pairs_post}

-- the numbers below one, each once, in some order
pub record AreAll (n : ℕ) (order : List ℕ) : Type 0 where
  pub long : length order ≡ n
  pub once : StandsOnce (λ s. nat_lt s n) order

-- a slot that is put into an order adds to its sums what it counts for
sum-placed : (f key : ℕ → ℕ) (xs : List ℕ) (s : ℕ) → sum_by f (placed_by key xs s) ≡ f s + sum_by f xs
sum-placed f key [] s = sum_by-cons f s []
sum-placed f key (x ∷ xs) s = by (nat_le (key x) (key s)) (sum-placed f key xs s)
  where
    by : (b : Bool) → sum_by f (placed_by key xs s) ≡ f s + sum_by f xs
        → sum_by f (if b then x ∷ placed_by key xs s else s ∷ x ∷ xs) ≡ f s + sum_by f (x ∷ xs)
    by true e = omega (arith, e, sum_by-cons f x xs, sum_by-cons f x (placed_by key xs s))
    by false e = omega (arith, sum_by-cons f s (x ∷ xs))

sum-fold : (f key : ℕ → ℕ) (front xs : List ℕ) → sum_by f (fold (placed_by key) front xs) ≡ sum_by f front + sum_by f xs
sum-fold f key front [] = omega arith
sum-fold f key front (x ∷ xs) = omega (arith, sum-fold f key (placed_by key front x) xs, sum-placed f key front x, sum_by-cons f x xs)

sum-by_key : (f key : ℕ → ℕ) (xs : List ℕ) → sum_by f (by_key key xs) ≡ sum_by f xs
sum-by_key f key xs = let e = sum-fold f key [] xs in omega (arith, e)

AreAll-by_key : (n : ℕ) (key : ℕ → ℕ) (xs : List ℕ) → AreAll n xs → AreAll n (by_key key xs)
AreAll-by_key n key xs all = record {
  long = omega (arith, all.long, length-ones xs, length-ones (by_key key xs), sum-by_key (λ _. 1) key xs);
  once = record { once = λ s. sum-by_key (λ x. cond (x == s) 1 0) key xs ∙ all.once.once s };
}

filter-below : (n a m : ℕ) → a + m ≤ n → filter (λ s. nat_lt s n) (range_with_len a m) ≡ range_with_len a m
filter-below n a zero le = refl
filter-below n a (suc m) le =
    ap (λ b. cond b (a ∷ filter (λ s. nat_lt s n) (range_with_len (a + 1) m)) (filter (λ s. nat_lt s n) (range_with_len (a + 1) m)))
    (lt-ltb a n (omega (arith, le)))
    ∙ ap (λ xs. a ∷ xs) (filter-below n (a + 1) m (omega (arith, le)))

AreAll-range : (n : ℕ) → AreAll n (range_with_len 0 n)
AreAll-range n = record {
  long = length-range_with_len 0 n;
  once = subst (StandsOnce (λ s. nat_lt s n)) (filter-below n 0 n (omega arith))
      (StandsOnce-filter_range (λ s. nat_lt s n) n (λ s e. ltb-true s n e));
}

-- the orders of columns and of departures
pub AreAll-arranged : (pairs : PairsView) (turned : Bool) (without : Option ℕ) → AreAll (length pairs.moves) (arranged pairs turned without)
unfolding arranged
AreAll-arranged pairs turned without =
    AreAll-by_key (length pairs.moves) (λ j. post_key (pairs_post pairs turned without j))
    (by_key (pairs_minute pairs turned) (range_with_len 0 (length pairs.moves)))
    (AreAll-by_key (length pairs.moves) (pairs_minute pairs turned) (range_with_len 0 (length pairs.moves))
    (AreAll-range (length pairs.moves)))

pub AreAll-departing : (pairs : PairsView) → AreAll (length pairs.moves) (departing pairs)
unfolding departing
AreAll-departing pairs =
    AreAll-by_key (length pairs.moves) (pairs_minute pairs false) (range_with_len 0 (length pairs.moves))
    (AreAll-range (length pairs.moves))

-- what stands at a place is counted
at-once : (xs : List ℕ) (k d : ℕ) → k < length xs → 1 ≤ times (get_or xs k d) xs
at-once [] k d lt = absurd (omega (arith, lt))
at-once (x ∷ xs) zero d lt =
    omega (arith, times-cons x x xs, ap {B = ℕ} (λ b. cond b 1 0) (eq-eqb x x refl))
at-once (x ∷ xs) (suc k) d lt = omega (arith, at-once xs k d (omega (arith, lt)), times-cons (get_or xs k d) x xs)

-- and what stands at two places twice
at-twice : (xs : List ℕ) (h k d : ℕ) → h < k → k < length xs → get_or xs h d ≡ get_or xs k d → 2 ≤ times (get_or xs k d) xs
at-twice [] h k d less lt same = absurd (omega (arith, lt))
at-twice (x ∷ xs) h zero d less lt same = absurd (omega (arith, less))
at-twice (x ∷ xs) zero (suc k) d less lt same =
    omega (
      arith,
      at-once xs k d (omega (arith, lt)),
      times-cons (get_or xs k d) x xs,
      ap {B = ℕ} (λ b. cond b 1 0) (eq-eqb x (get_or xs k d) same),
    )
at-twice (x ∷ xs) (suc h) (suc k) d less lt same =
    omega (arith, at-twice xs h k d (omega (arith, less)) (omega (arith, lt)) same, times-cons (get_or xs k d) x xs)

-- a slot that is counted stands at a place
stands-at : (s : ℕ) (xs : List ℕ) (d : ℕ) → 1 ≤ times s xs → (k : ℕ) × (k < length xs) × (get_or xs k d ≡ s)
stands-at s [] d some = absurd (omega (arith, some))
stands-at s (x ∷ xs) d some = ⊎_elim
    (λ (e : x ≡ s). (0, omega arith, e))
    (λ (ne : x ≡ s → ⊥).
    let none : ◌≡◌ {A = ℕ} (cond (x == s) 1 0) 0 = ap (λ b. cond b 1 0) (ne_eqb x s ne) in
    let rest = stands-at s xs d (omega (arith, some, times-cons s x xs, none)) in
    (suc rest.0, omega (arith, rest.1), rest.2))
    (cases_eq x s)

module _ (n : ℕ) (order : List ℕ) (all : AreAll n order) where
  slot-within : (k : ℕ) → k < n → get_or order k n < n
  slot-within k lt = ⊎_elim
      (λ (less : get_or order k n < n). less)
      (λ (more : n ≤ get_or order k n).
      let none : ◌≡◌ {A = ℕ} (cond (nat_lt (get_or order k n) n) 1 0) 0 = ap (λ b. cond b 1 0) (le-ltb (get_or order k n) n more) in
      absurd (omega (arith, at-once order k n (omega (arith, lt, all.long)), all.once.once (get_or order k n), none)))
      (cases_lt (get_or order k n) n)

  -- where a slot stands is its place
  place-of : (j : ℕ) → j < n → (k : ℕ) × (k < n) × (get_or order k n ≡ j) × (unwrap_or (position (λ s. s == j) order) n ≡ k)
  place-of j lt = by (position (λ s. s == j) order) refl
    where
      by : (found : Option ℕ) → position (λ s. s == j) order ≡ found
          → (k : ℕ) × (k < n) × (get_or order k n ≡ j) × (unwrap_or found n ≡ k)
      by (Some k) e =
          let first = position-Some (λ s. s == j) order k n e in
          (k, omega (arith, first.0, all.long), eqb-true (get_or order k n) j first.1, refl)
      by None e =
          let one : ◌≡◌ {A = ℕ} (cond (nat_lt j n) 1 0) 1 = ap (λ b. cond b 1 0) (lt-ltb j n lt) in
          let there = stands-at j order n (omega (arith, all.once.once j, one)) in
          absurd (false≢true (sym (position-None (λ s. s == j) order there.0 n e there.1) ∙ eq-eqb (get_or order there.0 n) j there.2))

  renaming : IsRenaming n (λ k. get_or order k n) (λ j. unwrap_or (position (λ s. s == j) order) n)
  renaming = record {
    slot_within = slot-within;
    place_within = λ j lt. let place = place-of j lt in omega (arith, place.1, place.3);
    there = λ j lt. let place = place-of j lt in ap (λ k. get_or order k n) place.3 ∙ place.2;
    back = λ k lt. let place = place-of (get_or order k n) (slot-within k lt) in place.3 ∙ same place.0 k place.1 lt place.2;
    no_slot = λ k past. omega (arith, get_or_past order k n (omega (arith, past, all.long)));
    no_place = λ j past. nowhere j past (position (λ s. s == j) order) refl;
  }
    where
      once : (h k : ℕ) → h < k → k < n → get_or order h n ≢ get_or order k n
      once h k less lt same =
          let one : ◌≡◌ {A = ℕ} (cond (nat_lt (get_or order k n) n) 1 0) 1 =
          ap (λ b. cond b 1 0) (lt-ltb (get_or order k n) n (slot-within k lt)) in
          absurd (omega (arith, at-twice order h k n less (omega (arith, lt, all.long)) same, all.once.once (get_or order k n), one))

      same : (h k : ℕ) → h < n → k < n → get_or order h n ≡ get_or order k n → h ≡ k
      same h k lt lt' e = ⊎_elim
          (λ (less : h < k). absurd (once h k less lt' e))
          (λ (le : k ≤ h). ⊎_elim
          (λ (less : k < h). absurd (once k h less lt (sym e)))
          (λ (ge : h ≤ k). omega (arith, le, ge))
          (cases_lt k h))
          (cases_lt h k)

      nowhere : (j : ℕ) → n ≤ j → (found : Option ℕ) → position (λ s. s == j) order ≡ found → n ≤ unwrap_or found n
      nowhere j past None e = omega arith
      nowhere j past (Some k) e =
          let first = position-Some (λ s. s == j) order k n e in
          let is : get_or order k n ≡ j = eqb-true (get_or order k n) j first.1 in
          absurd (omega (arith, past, is, slot-within k (omega (arith, first.0, all.long))))

-- an order of all slots renames them
pub IsRenaming-order : (n : ℕ) (order : List ℕ) → AreAll n order → IsRenaming n (slot_in order) (place_in order)
IsRenaming-order n order all =
    subst (λ m. IsRenaming n (λ k. get_or order k m) (λ j. unwrap_or (position (λ s. s == j) order) m)) (sym all.long)
    (renaming n order all)
