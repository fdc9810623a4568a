-- Going row by row through links gives their inverse.
use Rattle.std.proofs.Common.{◌≡◌, ◌≢◌, ℕ, ◌+◌, ◌<◌, ◌≤◌, List, length, replicate, set, Option, None, Some, refl, sym, ap, subst}
use Rattle.std.proofs.Common.{◌∙◌, ⊎_elim, arith}
use Rattle.std.specs.Prelude.{IfSome, IfNone}
use Rattle.std.proofs.lemmas.Bool.{cases_eq, cases_lt}
use Rattle.std.proofs.lemmas.List.{get_or-replicate, get_or_past, get_or-set_same, get_or-set_other, length-replicate}
use Rattle.std.proofs.lemmas.Option.{none-some, same_Some}
use Rattle.trip_model.specs.Links.{next_of, before_of, AreApart}
use Rattle.trip_model.proofs.BeforeLemmas.{next-before, before-next, next-within}
use Rattle.assignment_model.specs.Paths.{AreNextTrips}
use Rattle.pair_search.specs.Inverse.{IsInverse, IsInverseBut}

-- a row that is linked is told before its column
pub IsInverse-some : (next before : List (Option ℕ)) (row column : ℕ) → AreNextTrips next → column < length before
    → next_of next row ≡ Some column → IsInverse row next before
    → IsInverse (row + 1) next (set before column (Some row))
IsInverse-some next before row column are within linked so = record {
  told = λ i j lt e. ⊎_elim
      (λ (same : i ≡ row).
      let here : j ≡ column = same_Some j column (sym e ∙ ap (next_of next) same ∙ linked) in
      ap (next_of (set before column (Some row))) here ∙ get_or-set_same before column (Some row) None within ∙ ap Some (sym same))
      (λ (ne : i ≡ row → ⊥).
      get_or-set_other before column j (Some row) None (λ here. ne (are.once i row column (e ∙ ap Some here) linked))
      ∙ so.told i j (omega arith) e)
      (cases_eq i row);
  linked = λ i j e. ⊎_elim
      (λ (here : j ≡ column).
      let same : i ≡ row = same_Some i row
      (sym e ∙ ap (next_of (set before column (Some row))) here ∙ get_or-set_same before column (Some row) None within) in
      (omega (arith, same), ap (next_of next) same ∙ linked ∙ ap Some (sym here)))
      (λ (ne : j ≡ column → ⊥). let old = so.linked i j (sym (get_or-set_other before column j (Some row) None ne) ∙ e) in
      (omega (arith, old.0), old.1))
      (cases_eq j column);
}

-- and one that is not adds nothing
pub IsInverse-none : (next before : List (Option ℕ)) (row : ℕ) → next_of next row ≡ None → IsInverse row next before
    → IsInverse (row + 1) next before
IsInverse-none next before row none so = record {
  told = λ i j lt e. ⊎_elim
      (λ (same : i ≡ row). absurd (none-some j (sym none ∙ ap (next_of next) (sym same) ∙ e)))
      (λ (ne : i ≡ row → ⊥). so.told i j (omega arith) e)
      (cases_eq i row);
  linked = λ i j e. let old = so.linked i j e in (omega (arith, old.0), old.1);
}

-- before each column stands the row that is linked to it
pub inverse-before : (next before : List (Option ℕ)) → AreApart next → IsInverse (length next) next before → (j : ℕ)
    → next_of before j ≡ before_of next j
inverse-before next before once so j = at-column (before_of next j) refl
  where
    alone : (found : Option ℕ) → next_of before j ≡ found → before_of next j ≡ None → next_of before j ≡ None
    alone None e none = e
    alone (Some i) e none = absurd (none-some i (sym none ∙ before-next next i j once (so.linked i j e).1))

    at-column : (found : Option ℕ) → before_of next j ≡ found → next_of before j ≡ before_of next j
    at-column None none = alone (next_of before j) refl none ∙ sym none
    at-column (Some i) e = so.told i j (next-within next i j (next-before next i j e)) (next-before next i j e) ∙ sym e

-- of links that link none no row has a next
pub unlinked : (n i : ℕ) → next_of (replicate n None) i ≡ None
unlinked n i = ⊎_elim
    (λ (lt : i < n). get_or-replicate n i None None lt)
    (λ (le : n ≤ i). get_or_past (replicate {A = Option ℕ} n None) i None (omega (arith, le, length-replicate {A = Option ℕ} n None)))
    (cases_lt i n)

-- where no row is linked, nothing stands before a column
pub inverse-none : (n : ℕ) (next before : List (Option ℕ)) → IsInverse (length next) next before → next ≡ replicate n None
    → (j : ℕ) → next_of before j ≡ None
inverse-none n next before so none j = at-column (next_of before j) refl
  where
    at-column : (found : Option ℕ) → next_of before j ≡ found → next_of before j ≡ None
    at-column None e = e
    at-column (Some i) e =
        absurd (none-some j (sym (ap (λ links. next_of links i) none ∙ unlinked n i) ∙ (so.linked i j e).1))

-- as a search has ended at a column that no row is linked to, or at none
pub IsInverseBut-begun : (next before : List (Option ℕ)) (to : Option ℕ) → IfSome to (λ j. before_of next j ≡ None) → AreApart next
    → IsInverse (length next) next before → IsInverseBut next before to
IsInverseBut-begun next before to none once so = record {
  once = once;
  free = λ i j e linked. none-some i (sym (subst (λ o. IfSome o (λ j. before_of next j ≡ None)) e none) ∙ before-next next i j once linked);
  told = λ i j _ e. so.told i j (next-within next i j e) e;
  linked = λ i j _ e. (so.linked i j e).1;
}

-- a row is given the column, and the one that it had is free
pub IsInverseBut-more : (next before before' : List (Option ℕ)) (row : ℕ) (to : Option ℕ) → row < length next
    → IfSome to (λ j. j < length before) → IfSome to (λ j. before' ≡ set before j (Some row)) → IfNone to (before' ≡ before)
    → IsInverseBut next before to → IsInverseBut (set next row to) before' (next_of next row)
IsInverseBut-more next before before' row None inside within some none so = record {
  once = λ h i j e f. so.once h i j (kept h j e) (kept i j f);
  free = λ i j had e. empty i j e (so.once i row j (kept i j e) had);
  told = λ i j _ e. ap (λ b. next_of b j) none ∙ so.told i j (λ x. none-some j x) (kept i j e);
  linked = λ i j other e.
      let was = so.linked i j (λ x. none-some j x) (sym (ap (λ b. next_of b j) none) ∙ e) in
      get_or-set_other next row i None None (λ x. other (ap (next_of next) (sym x) ∙ was)) ∙ was;
}
  where
    empty : (i j : ℕ) → next_of (set next row None) i ≡ Some j → i ≢ row
    empty i j e same = none-some j (sym (ap (next_of (set next row None)) same ∙ get_or-set_same next row None None inside) ∙ e)

    kept : (i j : ℕ) → next_of (set next row None) i ≡ Some j → next_of next i ≡ Some j
    kept i j e = sym (get_or-set_other next row i None None (empty i j e)) ∙ e
IsInverseBut-more next before before' row (Some c) inside within some none so = record {
  once = λ h i j e f. ⊎_elim
      (λ (x : h ≡ row). ⊎_elim
      (λ (y : i ≡ row). x ∙ sym y)
      (λ (y : i ≡ row → ⊥). absurd (so.free i c refl (kept i j y f ∙ ap Some (sym (given h j x e)))))
      (cases_eq i row))
      (λ (x : h ≡ row → ⊥). ⊎_elim
      (λ (y : i ≡ row). absurd (so.free h c refl (kept h j x e ∙ ap Some (sym (given i j y f)))))
      (λ (y : i ≡ row → ⊥). so.once h i j (kept h j x e) (kept i j y f))
      (cases_eq i row))
      (cases_eq h row);
  free = λ i j had e. ⊎_elim
      (λ (x : i ≡ row). so.free row c refl (had ∙ ap Some (sym (given i j x e))))
      (λ (x : i ≡ row → ⊥). x (so.once i row j (kept i j x e) had))
      (cases_eq i row);
  told = λ i j _ e. ⊎_elim
      (λ (x : i ≡ row). ap (next_of before') (sym (given i j x e)) ∙ here ∙ ap Some (sym x))
      (λ (x : i ≡ row → ⊥).
      let other : c ≢ j = λ y. so.free i c refl (kept i j x e ∙ ap Some (sym y)) in
      there j other ∙ so.told i j (λ y. other (same_Some c j y)) (kept i j x e))
      (cases_eq i row);
  linked = λ i j other e. ⊎_elim
      (λ (x : c ≡ j).
      let same : i ≡ row = same_Some i row (sym e ∙ ap (next_of before') (sym x) ∙ here) in
      ap (next_of (set next row (Some c))) same ∙ get_or-set_same next row (Some c) None inside ∙ ap Some x)
      (λ (x : c ≡ j → ⊥).
      let was = so.linked i j (λ y. x (same_Some c j y)) (sym (there j x) ∙ e) in
      get_or-set_other next row i (Some c) None (λ y. other (ap (next_of next) (sym y) ∙ was)) ∙ was)
      (cases_eq c j);
}
  where
    here : next_of before' c ≡ Some row
    here = ap (λ b. next_of b c) some ∙ get_or-set_same before c (Some row) None within

    there : (j : ℕ) → c ≢ j → next_of before' j ≡ next_of before j
    there j ne = ap (λ b. next_of b j) some ∙ get_or-set_other before c j (Some row) None (λ e. ne (sym e))

    given : (i j : ℕ) → i ≡ row → next_of (set next row (Some c)) i ≡ Some j → c ≡ j
    given i j x e = same_Some c j
        (sym (ap (next_of (set next row (Some c))) x ∙ get_or-set_same next row (Some c) None inside) ∙ e)

    kept : (i j : ℕ) → i ≢ row → next_of (set next row (Some c)) i ≡ Some j → next_of next i ≡ Some j
    kept i j ne e = sym (get_or-set_other next row i (Some c) None ne) ∙ e

-- where no column is left out, it is the inverse
pub IsInverse-whole : (next before : List (Option ℕ)) (to : Option ℕ) → to ≡ None → IsInverseBut next before to
    → IsInverse (length next) next before
IsInverse-whole next before to none so = record {
  told = λ i j _ e. so.told i j (λ x. none-some j (sym none ∙ x)) e;
  linked = λ i j e. let linked = so.linked i j (λ x. none-some j (sym none ∙ x)) e in (next-within next i j linked, linked);
}
