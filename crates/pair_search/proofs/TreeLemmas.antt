-- The tree of a search keeps its invariant as a row comes in.
use Rattle.std.proofs.Common.{◌≡◌, ◌≢◌, ℕ, ◌+◌, ◌<◌, ◌≤◌, Bool, true, false, not, cond, List, length, set, replicate, count_by, None, Some}
use Rattle.std.proofs.Common.{refl, sym, ap, subst, ◌∙◌, ⊎_elim, inr, ◌⊎◌, arith}
use Rattle.std.proofs.lemmas.Bool.{both_ways, cases_Bool, cases_eq, cases_lt}
use Rattle.std.proofs.lemmas.List.{get_or-set_same, get_or-set_other, get_or-replicate}
use Rattle.std.proofs.lemmas.List.Folds.{sum_by-replicate}
use Rattle.std.proofs.lemmas.List.Sums.{sum_by-set}
use Rattle.std.proofs.Math.Nat.{le_antisymm}
use Rattle.trip_model.specs.Links.{next_of}
use Rattle.pair_search.specs.declared.grow.End.{End}
use Rattle.pair_search.specs.Search.{at, is_done, as_columns, AreLooked, Problem, IsInside, IsGiven, TreeView, IsVia, IsIn, IsFrom, IsTree}
use Rattle.pair_search.specs.Search.{IsNext, IsBest, HasEnded}

-- a tree of these lists
abbrev pub tree_with : List ℕ → List ℕ → List Bool → List ℕ → List ℕ → ℕ → ℕ → TreeView
tree_with dist parent done rows far size reach =
    record { dist = dist; parent = parent; done = done; rows = rows; far = far; size = size; reach = reach }

-- one column more is done
count-done : (done : List Bool) (column : ℕ) → column < length done → is_done done column ≡ false
    → count_by not (set done column true) + 1 ≡ count_by not done
count-done done column inside undone =
    let was : ◌≡◌ {A = ℕ} (cond (not (is_done done column)) 1 0) 1 = ap (λ b. cond (not b) 1 0) undone in
    omega (arith, sum_by-set (λ b. cond (not b) 1 0) done column true false inside, was)

-- the columns were looked at from a row that comes in
pub record IsVisit (p : Problem) (s : TreeView) (row column : ℕ) (dist parent : List ℕ) : Type 0 where
  pub next : IsNext p s row column
  pub done : length s.done ≡ p.n
  pub rows : length s.rows ≡ p.n + 1
  pub far : length s.far ≡ p.n + 1
  pub looked : AreLooked (p.w row) p.n s.size (at s.dist column + at p.leave row) p.enter
      (as_columns s.dist s.parent (set s.done column true)) (as_columns dist parent (set s.done column true))

-- the tree with the row
abbrev visited : TreeView → ℕ → ℕ → List ℕ → List ℕ → TreeView
visited s row column dist parent =
    tree_with dist parent (set s.done column true) (set s.rows s.size row) (set s.far s.size (at s.dist column)) (s.size + 1)
    (at s.dist column)

-- there is room for one row more
pub tree-room : (p : Problem) (s : TreeView) (column : ℕ) → IsTree p s → column < length s.done → is_done s.done column ≡ false
    → s.size ≤ p.n
tree-room p s column tree inside undone = omega (arith, tree.count, count-done s.done column inside undone)

room : (p : Problem) (s : TreeView) (row column : ℕ) (dist parent : List ℕ) → IsTree p s → IsVisit p s row column dist parent
    → s.size < p.n + 1
room p s row column dist parent tree v = omega (arith, tree-room p s column tree (omega (arith, v.next.within, v.done)) v.next.undone)

rows-new : (p : Problem) (s : TreeView) (row column : ℕ) (dist parent : List ℕ) → IsTree p s → IsVisit p s row column dist parent
    → (t : ℕ) → t ≡ s.size → at (set s.rows s.size row) t ≡ row
rows-new p s row column dist parent tree v t e =
    ap (at (set s.rows s.size row)) e ∙ get_or-set_same s.rows s.size row 0 (omega (arith, room p s row column dist parent tree v, v.rows))

far-new : (p : Problem) (s : TreeView) (row column : ℕ) (dist parent : List ℕ) → IsTree p s → IsVisit p s row column dist parent
    → (t : ℕ) → t ≡ s.size → at (set s.far s.size (at s.dist column)) t ≡ at s.dist column
far-new p s row column dist parent tree v t e =
    ap (at (set s.far s.size (at s.dist column))) e
    ∙ get_or-set_same s.far s.size (at s.dist column) 0 (omega (arith, room p s row column dist parent tree v, v.far))

at-old : (xs : List ℕ) (size x t : ℕ) → t < size → at (set xs size x) t ≡ at xs t
at-old xs size x t lt = get_or-set_other xs size t x 0 (λ e. absurd (omega (arith, lt, e)))

done-new : (p : Problem) (s : TreeView) (row column : ℕ) (dist parent : List ℕ) → IsVisit p s row column dist parent
    → (j : ℕ) → j ≡ column → is_done (set s.done column true) j ≡ true
done-new p s row column dist parent v j e =
    ap (is_done (set s.done column true)) e ∙ get_or-set_same s.done column true false (omega (arith, v.next.within, v.done))

done-old : (s : TreeView) (column j : ℕ) → j ≢ column → is_done (set s.done column true) j ≡ is_done s.done j
done-old s column j ne = get_or-set_other s.done column j true false ne

-- a column that was done is not the one by which a row comes in
apart-done : (p : Problem) (s : TreeView) (row column : ℕ) → IsNext p s row column → (j : ℕ) → is_done s.done j ≡ true → j ≢ column
apart-done p s row column next j done = λ e. both_ways (is_done s.done column) next.undone (ap (is_done s.done) (sym e) ∙ done)

-- columns that are done are as far as before, and reached as before
keeps : (p : Problem) (s : TreeView) (row column : ℕ) (dist parent : List ℕ) → IsVisit p s row column dist parent
    → (j : ℕ) → is_done (set s.done column true) j ≡ true → (at dist j ≡ at s.dist j) × (at parent j ≡ at s.parent j)
keeps p s row column dist parent v j done = ⊎_elim
    (λ (lt : at dist j < at s.dist j). absurd (both_ways (is_done (set s.done column true) j) (v.looked.reached j lt).undone done))
    (λ (le : at s.dist j ≤ at dist j). (le_antisymm (v.looked.nearer j) le, v.looked.same j le))
    (cases_lt (at dist j) (at s.dist j))

-- the row that comes in may be in the tree
inside-row : (p : Problem) (s : TreeView) (row column : ℕ) → IsNext p s row column → IsInside p row
inside-row p s row column next = inr (column, next.linked)

-- none that was done is farther than the row that comes in
done-near : (p : Problem) (s : TreeView) (row column : ℕ) (dist parent : List ℕ) → IsTree p s → IsVisit p s row column dist parent
    → (j : ℕ) → j < p.n → is_done (set s.done column true) j ≡ true → at s.dist j ≤ at s.dist column
done-near p s row column dist parent tree v j lt done = ⊎_elim
    (λ (e : j ≡ column). let same : at s.dist j ≡ at s.dist column = ap (at s.dist) e in omega (arith, same))
    (λ (ne : j ≡ column → ⊥).
    let old = tree.done j lt (sym (done-old s column j ne) ∙ done) in
    omega (arith, old.far, tree.within old.place old.within.1, tree.later column v.next.within v.next.undone))
    (cases_eq j column)

visit-via : (p : Problem) (s : TreeView) (row column : ℕ) (dist parent : List ℕ) → IsTree p s → IsVisit p s row column dist parent
    → (t : ℕ) → 0 < t → t < s.size + 1 → IsVia p (visited s row column dist parent) t
visit-via p s row column dist parent tree v t positive lt = ⊎_elim
    (λ (old : t < s.size).
    let via = tree.via t positive old in
    let ne = apart-done p s row column v.next via.column via.done in
    let done : is_done (set s.done column true) via.column ≡ true = done-old s column via.column ne ∙ via.done in
    let kept = keeps p s row column dist parent v via.column done in
    record {
      column = via.column;
      linked = via.linked ∙ ap Some (sym (at-old s.rows s.size row t old));
      done = done;
      far = kept.0 ∙ via.far ∙ sym (at-old s.far s.size (at s.dist column) t old);
      parent = omega (arith, kept.1, via.parent);
    })
    (λ (new : s.size ≤ t).
    let e : t ≡ s.size = omega (arith, new, lt) in
    let done = done-new p s row column dist parent v column refl in
    let kept = keeps p s row column dist parent v column done in
    record {
      column = column;
      linked = v.next.linked ∙ ap Some (sym (rows-new p s row column dist parent tree v t e));
      done = done;
      far = kept.0 ∙ sym (far-new p s row column dist parent tree v t e);
      parent = omega (arith, kept.1, (tree.reached column v.next.within v.next.near).within, e);
    })
    (cases_lt t s.size)

visit-apart : (p : Problem) (s : TreeView) (row column : ℕ) (dist parent : List ℕ) → IsGiven p → IsTree p s
    → IsVisit p s row column dist parent
    → (r t : ℕ) → r < t → t < s.size + 1 → at (set s.rows s.size row) r ≢ at (set s.rows s.size row) t
visit-apart p s row column dist parent given tree v r t less lt = ⊎_elim
    (λ (old : t < s.size). λ same. tree.apart r t less old
    (sym (at-old s.rows s.size row r (omega arith)) ∙ same ∙ at-old s.rows s.size row t old))
    (λ (new : s.size ≤ t). λ same.
    let e : t ≡ s.size = omega (arith, new, lt) in
    let row-at : at s.rows r ≡ row = sym (at-old s.rows s.size row r (omega arith)) ∙ same
    ∙ rows-new p s row column dist parent tree v t e in
    ⊎_elim
    (λ (first : r ≡ 0).
    let start : row ≡ p.a = sym row-at ∙ ap (at s.rows) first ∙ tree.root.1 in
    given.root column (v.next.linked ∙ ap Some start))
    (λ (later : r ≡ 0 → ⊥).
    let via = tree.via r (omega arith) (omega arith) in
    apart-done p s row column v.next via.column via.done (given.once via.column column row (via.linked ∙ ap Some row-at) v.next.linked))
    (cases_eq r 0))
    (cases_lt t s.size)

visit-covered : (p : Problem) (s : TreeView) (row column : ℕ) (dist parent : List ℕ) → IsGiven p → IsTree p s
    → IsVisit p s row column dist parent
    → (t j k : ℕ) → t < s.size + 1 → p.w (at (set s.rows s.size row) t) j ≡ Some k
    → at dist j + k ≤ at (set s.far s.size (at s.dist column)) t + at p.leave (at (set s.rows s.size row) t) + at p.enter j
visit-covered p s row column dist parent given tree v t j k lt fits = ⊎_elim
    (λ (old : t < s.size).
    let r = at-old s.rows s.size row t old in
    let leaves : at p.leave (at (set s.rows s.size row) t) ≡ at p.leave (at s.rows t) = ap (at p.leave) r in
    omega (
      arith,
      tree.covered t j k old (ap (λ i. p.w i j) (sym r) ∙ fits),
      v.looked.nearer j,
      at-old s.far s.size (at s.dist column) t
          old,
      leaves,
    ))
    (λ (new : s.size ≤ t).
    let e : t ≡ s.size = omega (arith, new, lt) in
    let r = rows-new p s row column dist parent tree v t e in
    let leaves : at p.leave (at (set s.rows s.size row) t) ≡ at p.leave row = ap (at p.leave) r in
    let far = far-new p s row column dist parent tree v t e in
    let fit : p.w row j ≡ Some k = ap (λ i. p.w i j) (sym r) ∙ fits in
    let inside = (given.weights.within row j k fit).1 in
    ⊎_elim
    (λ (done : is_done (set s.done column true) j ≡ true).
    let kept = keeps p s row column dist parent v j done in
    omega (
      arith,
      kept.0,
      done-near p s row column dist parent tree v j inside done,
      given.covers row j k
          (inside-row p s row column v.next) fit,
      leaves,
      far,
    ))
    (λ (undone : is_done (set s.done column true) j ≡ false).
    omega (arith, v.looked.covered j k inside undone fit, leaves, far))
    (cases_Bool (is_done (set s.done column true) j)))
    (cases_lt t s.size)

visit-later : (p : Problem) (s : TreeView) (row column : ℕ) (dist parent : List ℕ) → IsGiven p → IsVisit p s row column dist parent
    → (j : ℕ) → j < p.n → is_done (set s.done column true) j ≡ false → at s.dist column ≤ at dist j
visit-later p s row column dist parent given v j lt undone =
    let ne : j ≢ column = λ e. both_ways (is_done (set s.done column true) j) undone (done-new p s row column dist parent v j e) in
    ⊎_elim
    (λ (less : at dist j < at s.dist j).
    let reached = v.looked.reached j less in
    omega (arith, reached.exact, given.covers row j reached.weight (inside-row p s row column v.next) reached.fits))
    (λ (le : at s.dist j ≤ at dist j). omega (arith, le, v.next.least j lt (sym (done-old s column j ne) ∙ undone)))
    (cases_lt (at dist j) (at s.dist j))

visit-done : (p : Problem) (s : TreeView) (row column : ℕ) (dist parent : List ℕ) → IsTree p s → IsVisit p s row column dist parent
    → (j : ℕ) → j < p.n → is_done (set s.done column true) j ≡ true → IsIn p (visited s row column dist parent) j
visit-done p s row column dist parent tree v j lt done =
    let kept = keeps p s row column dist parent v j done in
    ⊎_elim
    (λ (e : j ≡ column). record {
      place = s.size;
      within = (tree.root.0, omega arith);
      linked = ap (next_of p.before) e ∙ v.next.linked ∙ ap Some (sym (rows-new p s row column dist parent tree v s.size refl));
      far = kept.0 ∙ ap (at s.dist) e ∙ sym (far-new p s row column dist parent tree v s.size refl);
    })
    (λ (ne : j ≡ column → ⊥).
    let old = tree.done j lt (sym (done-old s column j ne) ∙ done) in
    record {
      place = old.place;
      within = (old.within.0, omega (arith, old.within.1));
      linked = old.linked ∙ ap Some (sym (at-old s.rows s.size row old.place old.within.1));
      far = kept.0 ∙ old.far ∙ sym (at-old s.far s.size (at s.dist column) old.place old.within.1);
    })
    (cases_eq j column)

visit-reached : (p : Problem) (s : TreeView) (row column : ℕ) (dist parent : List ℕ) → IsTree p s → IsVisit p s row column dist parent
    → (j : ℕ) → j < p.n → at dist j < 4503599627370497 → IsFrom p (visited s row column dist parent) j
visit-reached p s row column dist parent tree v j lt near = ⊎_elim
    (λ (less : at dist j < at s.dist j).
    let reached = v.looked.reached j less in
    let r = rows-new p s row column dist parent tree v (at parent j) reached.by in
    let leaves : at p.leave (at (set s.rows s.size row) (at parent j)) ≡ at p.leave row = ap (at p.leave) r in
    record {
      within = omega (arith, reached.by);
      weight = reached.weight;
      fits = ap (λ i. p.w i j) r ∙ reached.fits;
      exact = omega (arith, reached.exact, leaves, far-new p s row column dist parent tree v (at parent j) reached.by);
    })
    (λ (le : at s.dist j ≤ at dist j).
    let far = le_antisymm (v.looked.nearer j) le in
    let old = tree.reached j lt (omega (arith, far, near)) in
    let by = v.looked.same j le in
    let r : at (set s.rows s.size row) (at parent j) ≡ at s.rows (at s.parent j) = ap (at (set s.rows s.size row)) by
    ∙ at-old s.rows s.size row (at s.parent j) old.within in
    let f : at (set s.far s.size (at s.dist column)) (at parent j) ≡ at s.far (at s.parent j) =
    ap (at (set s.far s.size (at s.dist column))) by ∙ at-old s.far s.size (at s.dist column) (at s.parent j) old.within in
    let leaves : at p.leave (at (set s.rows s.size row) (at parent j)) ≡ at p.leave (at s.rows (at s.parent j)) = ap (at p.leave) r in
    record {
      within = omega (arith, by, old.within);
      weight = old.weight;
      fits = ap (λ i. p.w i j) r ∙ old.fits;
      exact = omega (arith, far, old.exact, leaves, f);
    })
    (cases_lt (at dist j) (at s.dist j))

-- the tree with a row more
pub IsTree-visit : (p : Problem) (s : TreeView) (row column : ℕ) (dist parent : List ℕ) → IsGiven p → IsTree p s
    → IsVisit p s row column dist parent
    → IsTree p (tree_with dist parent (set s.done column true) (set s.rows s.size row) (set s.far s.size (at s.dist column)) (s.size + 1)
    (at s.dist column))
IsTree-visit p s row column dist parent given tree v = record {
  root = (
    omega arith,
    at-old s.rows s.size row 0 tree.root.0 ∙ tree.root.1,
    at-old s.far s.size (at s.dist column) 0 tree.root.0
        ∙ tree.root.2,
  );
  within = λ t lt. ⊎_elim
      (λ (old : t < s.size). omega (
        arith,
        at-old s.far s.size (at s.dist column) t old,
        tree.within t old,
        tree.later column v.next.within
            v.next.undone,
      ))
      (λ (new : s.size ≤ t). omega (arith, far-new p s row column dist parent tree v t (omega (arith, new, lt))))
      (cases_lt t s.size);
  via = visit-via p s row column dist parent tree v;
  apart = visit-apart p s row column dist parent given tree v;
  covered = visit-covered p s row column dist parent given tree v;
  later = visit-later p s row column dist parent given v;
  done = visit-done p s row column dist parent tree v;
  reached = visit-reached p s row column dist parent tree v;
  count = omega (arith, tree.count, count-done s.done column (omega (arith, v.next.within, v.done)) v.next.undone);
}

-- the first row is the best end of a tree that has no other
pub IsBest-first : (p : Problem) (s : TreeView) (fall : ℕ) → IsGiven p → IsTree p s → s.size ≡ 1 → s.reach ≡ 0
    → fall ≡ at p.leave (at s.rows 0) → IsBest p s (record { from = 0; to = None; fall = fall })
IsBest-first p s fall given tree size reach is = record {
  alone = refl;
  within = tree.root.0;
  least = λ t lt.
      let first : t ≡ 0 = omega (arith, lt, size) in
      omega (arith, is, ap (λ i. at p.leave (at s.rows i)) first);
  exact = omega (arith, is, tree.root.2);
  later = omega (arith, reach);
  low = omega (arith, is, given.leave_low (at s.rows 0));
}

-- where no column is nearer than the best end, the search has ended there
pub HasEnded-row : (p : Problem) (s : TreeView) (best : End) → IsBest p s best
    → ((j : ℕ) → j < p.n → is_done s.done j ≡ false → best.fall ≤ at s.dist j) → HasEnded p s best
HasEnded-row p s best is columns = record {
  within = is.within;
  later = is.later;
  low = is.low;
  columns = columns;
  rows = is.least;
  alone = λ none. is.exact;
  column = λ j some. absurd (cc (is.alone, some));
}

-- and where the nearest column is linked to none, there
pub HasEnded-column : (p : Problem) (s : TreeView) (best : End) (column : ℕ) → IsTree p s → IsBest p s best → column < p.n
    → is_done s.done column ≡ false → at s.dist column < best.fall
    → ((j : ℕ) → j < p.n → is_done s.done j ≡ false → at s.dist column ≤ at s.dist j) → next_of p.before column ≡ None
    → HasEnded p s (record { from = at s.parent column; to = Some column; fall = at s.dist column })
HasEnded-column p s best column tree is inside undone nearer least free = record {
  within = (tree.reached column inside (omega (arith, nearer, is.low))).within;
  later = tree.later column inside undone;
  low = omega (arith, nearer, is.low);
  columns = least;
  rows = λ t lt. omega (arith, nearer, is.least t lt);
  alone = λ none. absurd (cc none);
  column = λ j some.
      let same : column ≡ j = cc some in
      subst (λ k. (k < p.n) × (at s.dist k ≡ at s.dist column) × (at s.parent k ≡ at s.parent column) × (next_of p.before k ≡ None)) same
      (inside, refl, refl, free);
}

-- of the best row and the one that came in the sooner is the best
pub IsBest-more : (p : Problem) (s s' : TreeView) (row far : ℕ) (best end : End) → IsBest p s best → s.size < length s.rows
    → s.size < length s.far
    → s'.rows ≡ set s.rows s.size row → s'.far ≡ set s.far s.size far → s'.size ≡ s.size + 1 → s'.reach ≡ far → far < best.fall
    → (end ≡ best) ⊎ (end ≡ record { from = s.size; to = None; fall = far + at p.leave row }) → end.fall ≤ best.fall
    → end.fall ≤ far + at p.leave row → IsBest p s' end
IsBest-more p s s' row far best end is in-rows in-far rows fars size reach near one sooner soon = record {
  alone = ⊎_elim (λ (e : end ≡ best). ap (λ (x : End). x.to) e ∙ is.alone)
      (λ (e : end ≡ record { from = s.size; to = None; fall = far + at p.leave row }). ap (λ (x : End). x.to) e) one;
  within = ⊎_elim
      (λ (e : end ≡ best). let same : end.from ≡ best.from = ap (λ (x : End). x.from) e in omega (arith, same, is.within, size))
      (λ (e : end ≡ record { from = s.size; to = None; fall = far + at p.leave row }). let same : end.from ≡ s.size = ap (λ
      (x : End). x.from) e in omega (arith, same, size))
      one;
  least = λ t lt. ⊎_elim
      (λ (old : t < s.size). omega (arith, is.least t old, sooner, far-old t old, leave-old t old))
      (λ (new : s.size ≤ t). let e : t ≡ s.size = omega (arith, new, lt, size) in omega (arith, soon, far-here t e, leave-here t e))
      (cases_lt t s.size);
  exact = ⊎_elim
      (λ (e : end ≡ best).
      let fall : end.fall ≡ best.fall = ap (λ (x : End). x.fall) e in
      let from : at s'.far end.from + at p.leave (at s'.rows end.from) ≡ at s'.far best.from + at p.leave (at s'.rows best.from) =
      ap (λ (x : End). at s'.far x.from + at p.leave (at s'.rows x.from)) e in
      omega (arith, fall, from, is.exact, far-old best.from is.within, leave-old best.from is.within))
      (λ (e : end ≡ record { from = s.size; to = None; fall = far + at p.leave row }).
      let fall : end.fall ≡ far + at p.leave row = ap (λ (x : End). x.fall) e in
      let from : end.from ≡ s.size = ap (λ (x : End). x.from) e in
      omega (arith, fall, far-here end.from from, leave-here end.from from))
      one;
  later = ⊎_elim
      (λ (e : end ≡ best). let fall : end.fall ≡ best.fall = ap (λ (x : End). x.fall) e in omega (arith, fall, near, reach))
      (λ (e : end ≡ record { from = s.size; to = None; fall = far + at p.leave row }). let fall : end.fall ≡ far + at p.leave
      row = ap (λ (x : End). x.fall) e in omega (arith, fall, reach))
      one;
  low = omega (arith, sooner, is.low);
}
  where
    far-old : (t : ℕ) → t < s.size → at s'.far t ≡ at s.far t
    far-old t old = ap (λ xs. at xs t) fars ∙ at-old s.far s.size far t old

    leave-old : (t : ℕ) → t < s.size → at p.leave (at s'.rows t) ≡ at p.leave (at s.rows t)
    leave-old t old = ap (at p.leave) (ap (λ xs. at xs t) rows ∙ at-old s.rows s.size row t old)

    far-here : (t : ℕ) → t ≡ s.size → at s'.far t ≡ far
    far-here t e = ap (at s'.far) e ∙ ap (λ xs. at xs s.size) fars ∙ get_or-set_same s.far s.size far 0 in-far

    leave-here : (t : ℕ) → t ≡ s.size → at p.leave (at s'.rows t) ≡ at p.leave row
    leave-here t e = ap (at p.leave) (ap (at s'.rows) e ∙ ap (λ xs. at xs s.size) rows ∙ get_or-set_same s.rows s.size row 0 in-rows)

-- the tree of the first row alone
pub IsTree-begun : (p : Problem) (dist0 parent0 dist parent : List ℕ) (done : List Bool) (rows far : List ℕ) → IsGiven p
    → at p.leave p.a ≡ 4503599627370496
    → dist0 ≡ replicate p.n 4503599627370497 → done ≡ replicate p.n false → at rows 0 ≡ p.a → at far 0 ≡ 0
    → AreLooked (p.w p.a) p.n 0 4503599627370496 p.enter (as_columns dist0 parent0 done) (as_columns dist parent done)
    → IsTree p (tree_with dist parent done rows far 1 0)
IsTree-begun p dist0 parent0 dist parent done rows far given price dists dones row near looked = record {
  root = (omega arith, row, near);
  within = λ t lt. let e : t ≡ 0 = omega arith in let f : at far t ≡ 0 = ap (at far) e ∙ near in omega (arith, f);
  via = λ t positive lt. absurd (omega arith);
  apart = λ r t less lt. absurd (omega arith);
  covered = λ t j k lt fits.
      let e : t ≡ 0 = omega arith in
      let first : at rows t ≡ p.a = ap (at rows) e ∙ row in
      let fit : p.w p.a j ≡ Some k = ap (λ r. p.w r j) (sym first) ∙ fits in
      let inside = (given.weights.within p.a j k fit).1 in
      let leaves : at p.leave (at rows t) ≡ at p.leave p.a = ap (at p.leave) first in
      omega (arith, looked.covered j k inside (undone j inside) fit, leaves, price);
  later = λ j lt _. omega arith;
  done = λ j lt is. absurd (both_ways (is_done done j) (undone j lt) is);
  reached = λ j lt close.
      let start : at dist0 j ≡ 4503599627370497 = ap (λ xs. at xs j) dists ∙ get_or-replicate p.n j 4503599627370497 0 lt in
      let from = looked.reached j (omega (arith, start, close)) in
      let first : at rows (at parent j) ≡ p.a = ap (at rows) from.by ∙ row in
      let leaves : at p.leave (at rows (at parent j)) ≡ at p.leave p.a = ap (at p.leave) first in
      let f : at far (at parent j) ≡ 0 = ap (at far) from.by ∙ near in
      record {
        within = omega (arith, from.by);
        weight = from.weight;
        fits = ap (λ r. p.w r j) first ∙ from.fits;
        exact = omega (arith, from.exact, leaves, price, f);
      };
  count = let undone-columns : count_by not done ≡ p.n = ap (λ (bs : List Bool). count_by not bs) dones ∙ all-open p.n in
      omega (arith, undone-columns);
}
  where
    undone : (j : ℕ) → j < p.n → is_done done j ≡ false
    undone j lt = ap (λ xs. is_done xs j) dones ∙ get_or-replicate p.n j false false lt

    all-open : (n : ℕ) → count_by not (replicate n false) ≡ n
    all-open n = omega (arith, sum_by-replicate (λ b. cond (not b) 1 0) n false)
