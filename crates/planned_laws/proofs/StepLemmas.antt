-- The steps of a search as they are computed: what a pick takes, and what a row sees that looks at all columns.
use Rattle.std.proofs.Common.{◌≡◌, ℕ, zero, suc, ◌+◌, ◌-◌, ◌<◌, ◌≤◌, ◌&&◌, min, nat_lt, not, Bool, true, false, List, length}
use Rattle.std.proofs.Common.{Option, None, Some, if◌then◌else◌, refl, sym, ap, subst, ◌∙◌, ⊎_elim, arith}
use Rattle.std.proofs.lemmas.Bool.{both_ways, cases_eq, cases_lt, lt-ltb, le-ltb, ltb-true}
use Rattle.std.proofs.lemmas.List.{get_or_past}
use Rattle.std.proofs.lemmas.List.FromFn.{get_or-map-range_with_len, length-map-range_with_len}
use Rattle.std.proofs.lemmas.Option.{none-some, same_Some}
use Rattle.pair_search.specs.Determined.{nearness, first_nearest, approached, dist_from, rows_from}
use Rattle.pair_search.specs.Search.{at, is_done, as_columns, AreLooked}

-- What a pick takes of so many columns. No column that is not done is nearer, nor is the bound. If it takes one, that is nearer
-- than the bound.
pub record IsPicked (n : ℕ) (done : List Bool) (dist : List ℕ) (bound : ℕ) (pick : Option ℕ) : Type 0 where
  pub low : nearness dist bound pick ≤ bound
  pub least : (h : ℕ) → h < n → is_done done h ≡ false → nearness dist bound pick ≤ at dist h
  pub some : (j : ℕ) → pick ≡ Some j → (j < n) × (is_done done j ≡ false) × (at dist j < bound)

-- one column more
pick-more : (n : ℕ) (done : List Bool) (dist : List ℕ) (bound : ℕ) (pick : Option ℕ) → IsPicked n done dist bound pick
    → IsPicked (suc n) done dist bound (if not (is_done done n) && nat_lt (at dist n) (nearness dist bound pick) then Some n else pick)
pick-more n done dist bound pick before = by (is_done done n) refl (nat_lt (at dist n) (nearness dist bound pick)) refl
  where
    passed : (is_done done n ≡ false → nearness dist bound pick ≤ at dist n) → IsPicked (suc n) done dist bound pick
    passed far = record {
      low = before.low;
      least = λ h lt undone. ⊎_elim
          (λ (e : h ≡ n). subst (λ i. nearness dist bound pick ≤ at dist i) (sym e) (far (ap (is_done done) (sym e) ∙ undone)))
          (λ (ne : h ≡ n → ⊥). before.least h (omega (arith, lt, ne)) undone)
          (cases_eq h n);
      some = λ j e. let was = before.some j e in (omega (arith, was.0), was.1, was.2);
    }

    by : (over : Bool) → is_done done n ≡ over → (near : Bool) → nat_lt (at dist n) (nearness dist bound pick) ≡ near
        → IsPicked (suc n) done dist bound (if not over && near then Some n else pick)
    by true over near _ = passed (λ undone. absurd (both_ways (is_done done n) undone over))
    by false undone false e = passed (λ _. ⊎_elim
        (λ (lt : at dist n < nearness dist bound pick). absurd (both_ways _ e (lt-ltb _ _ lt)))
        (λ (le : nearness dist bound pick ≤ at dist n). le)
        (cases_lt (at dist n) (nearness dist bound pick)))
    by false undone true e =
        let less : at dist n < nearness dist bound pick = ltb-true _ _ e in
        record {
          low = omega (arith, less, before.low);
          least = λ h lt left. ⊎_elim
              (λ (same : h ≡ n). omega (arith, ap (at dist) same))
              (λ (ne : h ≡ n → ⊥). omega (arith, less, before.least h (omega (arith, lt, ne)) left))
              (cases_eq h n);
          some = λ j same.
              subst (λ i. (i < suc n) × (is_done done i ≡ false) × (at dist i < bound)) (same_Some n j same)
              (omega arith, undone, omega (arith, less, before.low));
        }

pub pick-is : (n : ℕ) (done : List Bool) (dist : List ℕ) (bound : ℕ) → IsPicked n done dist bound (first_nearest n done dist bound)
pick-is zero done dist bound = record {
  low = omega arith;
  least = λ h lt. absurd (omega (arith, lt));
  some = λ j e. absurd (none-some j e);
}
pick-is (suc n) done dist bound = pick-more n done dist bound (first_nearest n done dist bound) (pick-is n done dist bound)

-- A row looks at all columns, so far with its price, and what is computed is what is seen. It comes in at a place, and no weight
-- is above the cost.
module _ (w : ℕ → Option ℕ) (size start : ℕ) (enter : List ℕ) (done : List Bool) (dist parent : List ℕ)
    (parents : length parent ≡ length dist) (fair : (j k : ℕ) → w j ≡ Some k → k ≤ start + at enter j) where
  abbrev pub nearer_dist : List ℕ
  nearer_dist = dist_from w start enter done dist

  abbrev pub nearer_parent : List ℕ
  nearer_parent = rows_from size dist nearer_dist parent

  dist-at : (j : ℕ) → j < length dist → at nearer_dist j ≡ approached (is_done done j) (w j) (start + at enter j) (at dist j)
  dist-at j lt = get_or-map-range_with_len (λ i. approached (is_done done i) (w i) (start + at enter i) (at dist i)) 0 (length dist) j j 0
      lt (omega arith)

  parent-at : (j : ℕ) → j < length dist → at nearer_parent j ≡ (if nat_lt (at nearer_dist j) (at dist j) then size else at parent j)
  parent-at j lt = get_or-map-range_with_len (λ i. if nat_lt (at nearer_dist i) (at dist i) then size else at parent i) 0 (length dist) j
      j 0
      lt (omega arith)

  pub dist-long : length nearer_dist ≡ length dist
  dist-long = length-map-range_with_len (λ i. approached (is_done done i) (w i) (start + at enter i) (at dist i)) 0 (length dist)

  pub parent-long : length nearer_parent ≡ length dist
  parent-long = length-map-range_with_len (λ i. if nat_lt (at nearer_dist i) (at dist i) then size else at parent i) 0 (length dist)

  -- what one look does to a column
  no-farther : (over : Bool) (fits : Option ℕ) (cost far : ℕ) → approached over fits cost far ≤ far
  no-farther true fits cost far = omega arith
  no-farther false None cost far = omega arith
  no-farther false (Some k) cost far = omega arith

  nearer-than : (over : Bool) (fits : Option ℕ) (cost far : ℕ) → ((k : ℕ) → fits ≡ Some k → k ≤ cost) → approached over fits cost far < far
      → (over ≡ false) × ((k : ℕ) × (fits ≡ Some k) × (approached over fits cost far + k ≡ cost))
  nearer-than true fits cost far enough less = absurd (omega (arith, less))
  nearer-than false None cost far enough less = absurd (omega (arith, less))
  nearer-than false (Some k) cost far enough less = (refl, (k, refl, omega (arith, enough k refl, less)))

  past : (j : ℕ) → length dist ≤ j → (at nearer_dist j ≡ 0) × (at dist j ≡ 0) × (at nearer_parent j ≡ 0) × (at parent j ≡ 0)
  past j le = (
    get_or_past nearer_dist j 0 (omega (arith, le, dist-long)),
    get_or_past dist j 0 le,
    get_or_past nearer_parent j 0 (omega (arith, le, parent-long)),
    get_or_past parent j 0 (omega (arith, le, parents)),
  )

  sooner : (j : ℕ) → at nearer_dist j < at dist j → (j < length dist) × (at nearer_parent j ≡ size)
  sooner j less = ⊎_elim
      (λ (lt : j < length dist). (
        lt,
        parent-at j lt ∙ ap (λ b. if b then size else at parent j) (lt-ltb (at nearer_dist j) (at dist j) less),
      ))
      (λ (le : length dist ≤ j). let zeros = past j le in absurd (omega (arith, less, zeros.0, zeros.1)))
      (cases_lt j (length dist))

  pub AreLooked-computed : AreLooked w (length dist) size start enter (as_columns dist parent done)
      (as_columns nearer_dist nearer_parent done)
  AreLooked-computed = record {
    done = refl;
    covered = λ j k lt undone fits.
        let now : at nearer_dist j ≡ min (at dist j) (start + at enter j - k) = dist-at j lt
        ∙ ap (λ b. approached b (w j) (start + at enter j) (at dist j)) undone
        ∙ ap (λ f. approached false f (start + at enter j) (at dist j)) fits in
        omega (arith, now, fair j k fits);
    nearer = λ j. ⊎_elim
        (λ (lt : j < length dist).
        omega (arith, dist-at j lt, no-farther (is_done done j) (w j) (start + at enter j) (at dist j)))
        (λ (le : length dist ≤ j). let zeros = past j le in omega (arith, zeros.0, zeros.1))
        (cases_lt j (length dist));
    same = λ j le. ⊎_elim
        (λ (lt : j < length dist). parent-at j lt
        ∙ ap (λ b. if b then size else at parent j) (le-ltb (at nearer_dist j) (at dist j) le))
        (λ (over : length dist ≤ j). let zeros = past j over in omega (arith, zeros.2, zeros.3))
        (cases_lt j (length dist));
    reached = λ j less.
        let is = sooner j less in
        let far = dist-at j is.0 in
        let how = nearer-than (is_done done j) (w j) (start + at enter j) (at dist j) (fair j) (omega (arith, far, less)) in
        record {
          undone = how.0;
          by = is.1;
          weight = how.1.0;
          fits = how.1.1;
          exact = omega (arith, how.1.2, far);
        };
  }
