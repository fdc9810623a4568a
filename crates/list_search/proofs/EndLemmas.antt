-- Where a search has ended, rows of the tree and columns that they list are all that changes.
use Rattle.std.proofs.Common.{◌≡◌, ◌≢◌, ℕ, ◌+◌, ◌-◌, ◌<◌, Bool, true, false, List, Option, None, Some, refl, sym, ap, ◌∙◌, ⊎_elim, arith}
use Rattle.std.proofs.lemmas.Bool.{both_ways, cases_Bool, cases_eq}
use Rattle.std.proofs.lemmas.Option.{none-some, same_Some}
use Rattle.trip_model.specs.Links.{next_of}
use Rattle.trip_model.proofs.BeforeLemmas.{next-within}
use Rattle.pair_search.specs.Relinking.{lost, IsShifted}
use Rattle.pair_search.specs.Search.{at, is_done, Problem, TreeView}
use Rattle.pair_search.specs.declared.grow.End.{End}
use Rattle.pair_search.proofs.ShiftLemmas.{IsOver, place-of, row-linked}

module _ (p : Problem) (s : TreeView) (end : End) (out : ℕ → Bool) (b : Option ℕ) (next : List (Option ℕ))
    (over : IsOver p s end out b next) where
  -- a row of the tree other than the first is linked to a column that is done
  in-tree : (i t : ℕ) → i ≢ p.a → t < s.size → at s.rows t ≡ i → (j : ℕ) × (next_of next i ≡ Some j) × (is_done s.done j ≡ true)
  in-tree i t other lt e = ⊎_elim
      (λ (first : t ≡ 0). absurd (other (sym e ∙ ap (at s.rows) first ∙ over.tree.root.1)))
      (λ (later : t ≡ 0 → ⊥).
      let to = row-linked p s end out b next over t (omega (arith, later)) lt in
      (to.0.column, ap (next_of next) (sym e) ∙ to.1, to.0.done))
      (cases_eq t 0)

  -- rows of the tree are among all
  pub rows-within : (t : ℕ) → t < s.size → at s.rows t < p.n
  rows-within t lt = ⊎_elim
      (λ (first : t ≡ 0). omega (arith, ap (at s.rows) first, over.tree.root.1, over.given.start))
      (λ (later : t ≡ 0 → ⊥).
      let via = over.tree.via t (omega (arith, later)) lt in
      (over.given.rows (at s.rows t) via.column via.linked).0)
      (cases_eq t 0)

  -- where rows of the tree lose what prices fall past them, and columns gain it, prices are shifted
  pub IsShifted-tree : (leave enter : List ℕ)
      → ((t : ℕ) → t < s.size → at leave (at s.rows t) ≡ at p.leave (at s.rows t) - (end.fall - at s.far t))
      → ((i : ℕ) → ((t : ℕ) → t < s.size → at s.rows t ≢ i) → at leave i ≡ at p.leave i)
      → ((j : ℕ) → j < p.n → at enter j ≡ at p.enter j + (end.fall - at s.dist j))
      → IsShifted p.n p.a next s.dist end.fall p.leave p.enter leave enter
  IsShifted-tree leave enter rows others columns = record {
    root = omega (
      arith,
      rows 0 over.tree.root.0,
      ap (at leave) over.tree.root.1,
      ap (at p.leave) over.tree.root.1,
      over.tree.root.2,
    );
    rows = λ i other. by i other (next_of next i) refl;
    columns = columns;
  }
    where
      by : (i : ℕ) → i ≢ p.a → (to : Option ℕ) → next_of next i ≡ to
          → at leave i ≡ at p.leave i - lost s.dist end.fall (next_of next i)
      by i other None e =
          omega (
            arith,
            others i (λ t lt is. let linked = in-tree i t other lt is in none-some linked.0 (sym e ∙ linked.1)),
            ap (lost s.dist end.fall) e,
          )
      by i other (Some j) e = ⊎_elim
          (λ (done : is_done s.done j ≡ true).
          let placed = place-of p s end out b next over i j e done in
          omega (
            arith,
            rows placed.0 placed.1,
            ap (at leave) placed.2,
            ap (at p.leave) placed.2,
            placed.3,
            ap (lost s.dist end.fall) e,
          ))
          (λ (undone : is_done s.done j ≡ false).
          let column = (over.given.rows i j (over.inverse.told i j (next-within next i j e) e)).1 in
          omega (
            arith,
            others i (λ t lt is.
                let linked = in-tree i t other lt is in
                both_ways (is_done s.done j) undone (ap (is_done s.done) (same_Some j linked.0 (sym e ∙ linked.1)) ∙ linked.2)),
            over.ended.columns j column undone,
            ap (lost s.dist end.fall) e,
          ))
          (cases_Bool (is_done s.done j))
