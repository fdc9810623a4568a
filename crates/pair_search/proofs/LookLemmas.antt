-- Columns that are looked at from a place of the tree, group by group.
use Rattle.std.proofs.Common.{◌≡◌, ◌≢◌, ℕ, ◌+◌, ◌<◌, ◌≤◌, Bool, false, List, length, set, Option, None, Some, refl, sym, ap, subst, ◌∙◌}
use Rattle.std.proofs.Common.{⊎_elim, arith}
use Rattle.std.proofs.lemmas.Bool.{cases_eq, cases_lt}
use Rattle.std.proofs.lemmas.List.{get_or-set_same, get_or-set_other}
use Rattle.std.proofs.lemmas.Option.{none-some}
use Rattle.pair_search.specs.Groups.{AreApproached}
use Rattle.pair_search.specs.Search.{at, is_done, as_columns, AreLooked, Columns}

-- a column that was not nearer by this is as it was
pub stays : (first upto from cost near : ℕ) (enter : List ℕ) (done : List Bool) (dist parent dist' parent' : List ℕ)
    → AreApproached first upto from cost enter (as_columns dist parent done) (as_columns dist' parent' done) near
    → (j : ℕ) → at dist j ≤ at dist' j → at dist' j ≡ at dist j
stays first upto from cost near enter done dist parent dist' parent' l j le = omega (arith, le, l.nearer j)

-- A group of columns is looked at. Those that fit weigh the same. Before a place, those from a first one on fit, and are
-- approached. From that place on, columns are no farther than as they would be reached.
pub AreLooked-group : (w : ℕ → Option ℕ) (begin first upto end from start weight cost near : ℕ) (enter : List ℕ) (was : Columns)
    (done : List Bool) (dist parent dist' parent' : List ℕ)
    → (first < upto → begin ≤ first) → upto ≤ end
    → ((j k : ℕ) → begin ≤ j → j < end → w j ≡ Some k → (k ≡ weight) × (cost + weight ≡ start + 4503599627370496))
    → ((j : ℕ) → begin ≤ j → j < first → w j ≡ None) → ((j : ℕ) → begin ≤ j → first ≤ j → j < upto → w j ≡ Some weight)
    → ((j : ℕ) → begin ≤ j → upto ≤ j → j < end → is_done done j ≡ false → at dist j + 4503599627370496 ≤ cost + at enter j)
    → AreApproached first upto from cost enter (as_columns dist parent done) (as_columns dist' parent' done) near
    → AreLooked w begin from start enter was (as_columns dist parent done)
    → AreLooked w end from start enter was (as_columns dist' parent' done)
AreLooked-group w begin first upto end from start weight cost near enter was done dist parent dist' parent' le le' weigh none fits seen a
    l = record {
      done = l.done;
      covered = λ j k lt was-undone fit.
          let undone : is_done done j ≡ false = ap (λ xs. is_done xs j) l.done ∙ was-undone in
          ⊎_elim
          (λ (before : j < begin). omega (arith, a.nearer j, l.covered j k before was-undone fit))
          (λ (after : begin ≤ j). ⊎_elim
          (λ (looked : j < upto). ⊎_elim
          (λ (early : j < first). absurd (none-some k (sym (none j after early) ∙ fit)))
          (λ (in-time : first ≤ j). let weighs = weigh j k after lt fit in
          omega (arith, weighs.0, weighs.1, a.covered j in-time looked undone))
          (cases_lt j first))
          (λ (left : upto ≤ j). let weighs = weigh j k after lt fit in
          omega (arith, weighs.0, weighs.1, a.nearer j, seen j after left lt undone))
          (cases_lt j upto))
          (cases_lt j begin);
      nearer = λ j. omega (arith, a.nearer j, l.nearer j);
      same = λ j h. a.same j (omega (arith, h, l.nearer j, a.nearer j)) ∙ l.same j (omega (arith, h, a.nearer j));
      reached = λ j lt. ⊎_elim
          (λ (nearer : at dist' j < at dist j).
          let b = a.between j nearer in
          let after : begin ≤ j = omega (arith, b.0, le (omega (arith, b.0, b.1))) in
          let fit = fits j after b.0 b.1 in
          record {
            undone = a.undone j nearer;
            by = a.by j nearer;
            weight = weight;
            fits = fit;
            exact = omega (arith, (weigh j weight after (omega (arith, b.1, le')) fit).1, a.exact j nearer);
          })
          (λ (as-far : at dist j ≤ at dist' j).
          let same : at dist' j ≡ at dist j = omega (arith, as-far, a.nearer j) in
          let old = l.reached j (omega (arith, lt, same)) in
          record {
            undone = old.undone;
            by = a.same j as-far ∙ old.by;
            weight = old.weight;
            fits = old.fits;
            exact = omega (arith, same, old.exact);
          })
          (cases_lt (at dist' j) (at dist j));
    }

-- A group of columns is looked at, and none is approached. Those before a place fit no row. The others are no farther than as they
-- would be reached.
pub AreLooked-spent : (w : ℕ → Option ℕ) (begin end from start place : ℕ) (enter : List ℕ) (was now : Columns)
    → ((j : ℕ) → begin ≤ j → j < end → j < place → w j ≡ None)
    → ((j k : ℕ) → begin ≤ j → j < end → place ≤ j → is_done now.done j ≡ false → w j ≡ Some k → at now.dist j + k ≤ start + at enter j)
    → AreLooked w begin from start enter was now → AreLooked w end from start enter was now
AreLooked-spent w begin end from start place enter was now none seen l = record {
  done = l.done;
  covered = λ j k lt undone fit. ⊎_elim
      (λ (before : j < begin). l.covered j k before undone fit)
      (λ (after : begin ≤ j). ⊎_elim
      (λ (early : j < place). absurd (none-some k (sym (none j after lt early) ∙ fit)))
      (λ (late : place ≤ j). seen j k after lt late (ap (λ xs. is_done xs j) l.done ∙ undone) fit)
      (cases_lt j place))
      (cases_lt j begin);
  nearer = l.nearer;
  same = l.same;
  reached = l.reached;
}

-- columns stay as they are where a row brings nothing nearer
pub AreLooked-same : (w : ℕ → Option ℕ) (n from start : ℕ) (enter : List ℕ) (now : Columns)
    → ((j k : ℕ) → j < n → is_done now.done j ≡ false → w j ≡ Some k → at now.dist j + k ≤ start + at enter j)
    → AreLooked w n from start enter now now
AreLooked-same w n from start enter now spent = record {
  done = refl;
  covered = spent;
  nearer = λ j. omega arith;
  same = λ j h. refl;
  reached = λ j lt. absurd (omega (arith, lt));
}

-- what is said of columns is said of lists that are equal to theirs
pub AreApproached-same : (first upto from cost near : ℕ) (enter : List ℕ) (done done1 : List Bool)
    (dist dist1 parent parent1 dist' dist1' parent' parent1' : List ℕ)
    → done1 ≡ done → dist1 ≡ dist → parent1 ≡ parent → dist' ≡ dist1' → parent' ≡ parent1'
    → AreApproached first upto from cost enter (as_columns dist1 parent1 done1) (as_columns dist1' parent1' done1) near
    → AreApproached first upto from cost enter (as_columns dist parent done) (as_columns dist' parent' done) near
AreApproached-same first upto from cost near enter done done1 dist dist1 parent parent1 dist' dist1' parent' parent1' dones dists parents
    dists' parents' a =
    subst (λ xs. AreApproached first upto from cost enter (as_columns dist parent xs) (as_columns dist' parent' xs) near) dones
    (subst (λ xs. AreApproached first upto from cost enter (as_columns xs parent done1) (as_columns dist' parent' done1) near) dists
    (subst (λ xs. AreApproached first upto from cost enter (as_columns dist1 xs done1) (as_columns dist' parent' done1) near) parents
    (subst (λ xs. AreApproached first upto from cost enter (as_columns dist1 parent1 done1) (as_columns xs parent' done1) near) (sym dists')
    (subst (λ xs. AreApproached first upto from cost enter (as_columns dist1 parent1 done1) (as_columns dist1' xs done1) near)
    (sym parents') a))))

-- one column is approached, and comes nearer
pub AreApproached-one : (column from cost along : ℕ) (enter : List ℕ) (done : List Bool) (dist parent : List ℕ)
    → is_done done column ≡ false → along + 4503599627370496 ≡ cost + at enter column → along < at dist column
    → column < length dist → column < length parent
    → AreApproached column (column + 1) from cost enter (as_columns dist parent done)
    (as_columns (set dist column along) (set parent column from) done) along
AreApproached-one column from cost along enter done dist parent undone exact near inside inside' = record {
  covered = λ j le lt open-column. let e : column ≡ j = omega (arith, le, lt) in omega (arith, here j e, exact, ap (at enter) e);
  nearer = λ j. ⊎_elim
      (λ (e : column ≡ j). omega (arith, here j e, near, ap (at dist) e))
      (λ (ne : column ≡ j → ⊥). omega (arith, other j ne))
      (cases_eq column j);
  same = λ j le. ⊎_elim
      (λ (e : column ≡ j). absurd (omega (arith, here j e, near, ap (at dist) e, le)))
      (λ (ne : column ≡ j → ⊥). get_or-set_other parent column j from 0 (λ e. ne (sym e)))
      (cases_eq column j);
  between = λ j lt. let e = moved j lt in (omega (arith, e), omega (arith, e));
  undone = λ j lt. ap (is_done done) (sym (moved j lt)) ∙ undone;
  by = λ j lt. ap (at (set parent column from)) (sym (moved j lt)) ∙ get_or-set_same parent column from 0 inside';
  exact = λ j lt. let e = moved j lt in omega (arith, here j e, exact, ap (at enter) e);
  least = λ j lt. omega (arith, here j (moved j lt));
}
  where
    here : (j : ℕ) → column ≡ j → at (set dist column along) j ≡ along
    here j e = ap (at (set dist column along)) (sym e) ∙ get_or-set_same dist column along 0 inside

    other : (j : ℕ) → column ≢ j → at (set dist column along) j ≡ at dist j
    other j ne = get_or-set_other dist column j along 0 (λ e. ne (sym e))

    moved : (j : ℕ) → at (set dist column along) j < at dist j → column ≡ j
    moved j lt = ⊎_elim
        (λ (e : column ≡ j). e)
        (λ (ne : column ≡ j → ⊥). absurd (omega (arith, other j ne, lt)))
        (cases_eq column j)
