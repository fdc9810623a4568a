-- Looks at one column after the other.
use Rattle.std.proofs.Common.{◌≡◌, ◌≢◌, ℕ, ◌+◌, ◌<◌, ◌≤◌, Bool, true, false, List, length, set, Option, None, Some, refl, sym, ap, subst, ◌∙◌}
use Rattle.std.proofs.Common.{⊎_elim, ◌⊎◌, inl, inr, arith}
use Rattle.std.proofs.lemmas.Bool.{both_ways, cases_eq}
use Rattle.std.proofs.lemmas.List.{get_or-set_same, get_or-set_other}
use Rattle.std.proofs.lemmas.Option.{none-some, same_Some}
use Rattle.pair_search.specs.Search.{at, is_done, as_columns, Columns, AreLooked}

-- weights with one pair more, of a column that had none
pub record IsMore (v w : ℕ → Option ℕ) (column weight : ℕ) : Type 0 where
  pub none : v column ≡ None
  pub here : w column ≡ Some weight
  pub others : (j : ℕ) → column ≢ j → w j ≡ v j

module _ (v w : ℕ → Option ℕ) (column weight n from start : ℕ) (enter : List ℕ) (was : Columns) (dist parent : List ℕ)
    (more : IsMore v w column weight) (looked : AreLooked v n from start enter was (as_columns dist parent was.done)) where
  -- a column that came nearer at a distance has a weight, which is not of the column that is new
  old-reached : (j : ℕ) → at dist j < at was.dist j → column ≢ j
  old-reached j lt e = let r = looked.reached j lt in none-some r.weight (sym more.none ∙ ap v e ∙ r.fits)

  -- the column is not nearer by this
  pub AreLooked-kept : (is_done was.done column ≡ true) ⊎ (at dist column + weight ≤ start + at enter column)
      → AreLooked w n from start enter was (as_columns dist parent was.done)
  AreLooked-kept far = record {
    done = refl;
    covered = λ j k lt undone e. ⊎_elim
        (λ (here : column ≡ j).
        let same = same_Some weight k (sym more.here ∙ ap w here ∙ e) in
        ⊎_elim
        (λ (closed : is_done was.done column ≡ true). absurd (both_ways (is_done was.done j) undone (ap (is_done was.done) (sym here) ∙ closed)))
        (λ (le : at dist column + weight ≤ start + at enter column).
        omega (arith, le, same, ap (at dist) here, ap (at enter) here))
        far)
        (λ (past : column ≡ j → ⊥). looked.covered j k lt undone (sym (more.others j past) ∙ e))
        (cases_eq column j);
    nearer = looked.nearer;
    same = looked.same;
    reached = λ j lt.
        let r = looked.reached j lt in
        record { undone = r.undone; by = r.by; weight = r.weight; fits = more.others j (old-reached j lt) ∙ r.fits; exact = r.exact };
  }

  -- the column comes nearer
  pub AreLooked-near : (along : ℕ) → is_done was.done column ≡ false → along + weight ≡ start + at enter column → along < at dist column
      → column < length dist → column < length parent
      → AreLooked w n from start enter was (as_columns (set dist column along) (set parent column from) was.done)
  AreLooked-near along undone exact near inside inside' = record {
    done = refl;
    covered = λ j k lt undone e. ⊎_elim
        (λ (here : column ≡ j).
        let same = same_Some weight k (sym more.here ∙ ap w here ∙ e) in
        omega (arith, exact, same, now-here j here, ap (at enter) here))
        (λ (past : column ≡ j → ⊥). omega (arith, now-other j past, looked.covered j k lt undone (sym (more.others j past) ∙ e)))
        (cases_eq column j);
    nearer = λ j. ⊎_elim
        (λ (here : column ≡ j). omega (arith, now-here j here, near, looked.nearer j, ap (at dist) here))
        (λ (past : column ≡ j → ⊥). omega (arith, now-other j past, looked.nearer j))
        (cases_eq column j);
    same = λ j le. ⊎_elim
        (λ (here : column ≡ j). absurd (omega (arith, now-here j here, near, looked.nearer j, ap (at dist) here, le)))
        (λ (past : column ≡ j → ⊥). get_or-set_other parent column j from 0 (λ e. past (sym e))
        ∙ looked.same j (omega (arith, now-other j past, le)))
        (cases_eq column j);
    reached = λ j lt. ⊎_elim
        (λ (here : column ≡ j). record {
          undone = ap (is_done was.done) (sym here) ∙ undone;
          by = ap (at (set parent column from)) (sym here) ∙ get_or-set_same parent column from 0 inside';
          weight = weight;
          fits = ap w (sym here) ∙ more.here;
          exact = omega (arith, exact, now-here j here, ap (at enter) here);
        })
        (λ (past : column ≡ j → ⊥).
        let r = looked.reached j (omega (arith, now-other j past, lt)) in
        record {
          undone = r.undone;
          by = get_or-set_other parent column j from 0 (λ e. past (sym e)) ∙ r.by;
          weight = r.weight;
          fits = more.others j past ∙ r.fits;
          exact = omega (arith, now-other j past, r.exact);
        })
        (cases_eq column j);
  }
    where
      now-here : (j : ℕ) → column ≡ j → at (set dist column along) j ≡ along
      now-here j e = ap (at (set dist column along)) (sym e) ∙ get_or-set_same dist column along 0 inside

      now-other : (j : ℕ) → column ≢ j → at (set dist column along) j ≡ at dist j
      now-other j ne = get_or-set_other dist column j along 0 (λ e. ne (sym e))

-- a column is approached, and comes nearer or does not
pub AreLooked-step : (v w : ℕ → Option ℕ) (column weight n from start : ℕ) (enter : List ℕ) (was : Columns) (dist parent : List ℕ)
    (done : List Bool) (dist' parent' : List ℕ) (done' : List Bool) (along : ℕ) → IsMore v w column weight
    → AreLooked v n from start enter was (as_columns dist parent done) → done ≡ was.done → done' ≡ done
    → along + weight ≡ start + at enter column → column < length dist → column < length parent
    → ((dist' ≡ dist) × (parent' ≡ parent) × ((is_done done column ≡ true) ⊎ (at dist column ≤ along)))
    ⊎ ((dist' ≡ set dist column along) × (parent' ≡ set parent column from) × (is_done done column ≡ false) × (along < at dist column))
    → AreLooked w n from start enter was (as_columns dist' parent' done')
AreLooked-step v w column weight n from start enter was dist parent done dist' parent' done' along more looked same same' exact inside inside'
    one =
    subst (λ (d : List Bool). AreLooked w n from start enter was (as_columns dist' parent' d)) (sym (same' ∙ same))
    (⊎_elim
    (λ (kept : (dist' ≡ dist) × (parent' ≡ parent) × ((is_done done column ≡ true) ⊎ (at dist column ≤ along))).
    subst (λ (d : List ℕ). AreLooked w n from start enter was (as_columns d parent' was.done)) (sym kept.0)
    (subst (λ (d : List ℕ). AreLooked w n from start enter was (as_columns dist d was.done)) (sym kept.1)
    (AreLooked-kept v w column weight n from start enter was dist parent more before
    (⊎_elim (λ (closed : is_done done column ≡ true). inl (ap (λ d. is_done d column) (sym same) ∙ closed))
    (λ (le : at dist column ≤ along). inr (omega (arith, le, exact))) kept.2))))
    (λ (near : (dist' ≡ set dist column along) × (parent' ≡ set parent column from) × (is_done done column ≡ false)
    × (along < at dist column)).
    subst (λ (d : List ℕ). AreLooked w n from start enter was (as_columns d parent' was.done)) (sym near.0)
    (subst (λ (d : List ℕ). AreLooked w n from start enter was (as_columns (set dist column along) d was.done)) (sym near.1)
    (AreLooked-near v w column weight n from start enter was dist parent more before along
    (ap (λ d. is_done d column) (sym same) ∙ near.2) exact near.3 inside inside')))
    one)
  where
    before : AreLooked v n from start enter was (as_columns dist parent was.done)
    before = subst (λ (d : List Bool). AreLooked v n from start enter was (as_columns dist parent d)) same looked

-- before any look
pub AreLooked-none : (n from start : ℕ) (enter : List ℕ) (was : Columns) → AreLooked (λ j. None) n from start enter was was
AreLooked-none n from start enter was = record {
  done = refl;
  covered = λ j k lt undone e. absurd (none-some k e);
  nearer = λ j. omega arith;
  same = λ j le. refl;
  reached = λ j lt. absurd (omega (arith, lt));
}
