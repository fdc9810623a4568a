-- Columns are settled one after the other, some more than once.
use Rattle.std.proofs.Common.{◌≡◌, ◌≢◌, ℕ, ◌+◌, ◌-◌, ◌<◌, ◌≤◌, Bool, true, false, List, length, replicate, Option, None, Some, refl, sym, ap, subst, ◌∙◌, ⊎_elim, inl, inr, ◌⊎◌, arith}
use Rattle.std.proofs.lemmas.Bool.{cases_eq, cases_lt}
use Rattle.std.proofs.lemmas.List.{ext_get_or, get_or-replicate, length-replicate}
use Rattle.std.proofs.lemmas.Option.{none-some}
use Rattle.pair_search.specs.Search.{at, is_done, Columns}
use Rattle.list_search.specs.Trees.{IsSettled, IsKept}
use Rattle.list_search.proofs.LookedLemmas.{IsMore}

-- a column that is as it was has a price as low as it had
pub low-next : (fall : ℕ) (was : Columns) (enter : List ℕ) (now : Columns) (enter' : List ℕ) (j : ℕ) → IsKept was enter now enter' j
    → (at was.dist j < fall → at enter j ≤ 4503599627370496) → at now.dist j < fall → at enter' j ≤ 4503599627370496
low-next fall was enter now enter' j kept low near = omega (arith, kept.price, low (omega (arith, near, kept.far)))

-- one that is as it was, and then settled, is settled
pub kept-settled : (fall : ℕ) (was now end : Columns) (enter enter' enter'' : List ℕ) (j : ℕ) → IsKept was enter now enter' j
    → IsSettled fall now enter' end enter'' j → IsSettled fall was enter end enter'' j
kept-settled fall was now end enter enter' enter'' j kept settled = record {
  gained = omega (arith, settled.gained, kept.price, kept.far);
  far = settled.far;
  undone = settled.undone;
}

-- one that is settled, and then as it was, is settled
pub settled-kept : (fall : ℕ) (was now end : Columns) (enter enter' enter'' : List ℕ) (j : ℕ) → IsSettled fall was enter now enter' j
    → IsKept now enter' end enter'' j → IsSettled fall was enter end enter'' j
settled-kept fall was now end enter enter' enter'' j settled kept = record {
  gained = omega (arith, settled.gained, kept.price);
  far = kept.far ∙ settled.far;
  undone = kept.closed ∙ settled.undone;
}

-- one that is settled twice gains once, since it is far after the first time
pub settled-twice : (fall : ℕ) (was now end : Columns) (enter enter' enter'' : List ℕ) (j : ℕ) → fall ≤ 4503599627370496
    → IsSettled fall was enter now enter' j → IsSettled fall now enter' end enter'' j → IsSettled fall was enter end enter'' j
settled-twice fall was now end enter enter' enter'' j low first second = record {
  gained = omega (arith, first.gained, second.gained, first.far, low);
  far = second.far;
  undone = second.undone;
}

pub kept-twice : (was now end : Columns) (enter enter' enter'' : List ℕ) (j : ℕ)
    → IsKept was enter now enter' j → IsKept now enter' end enter'' j → IsKept was enter end enter'' j
kept-twice was now end enter enter' enter'' j first second = record {
  price = second.price ∙ first.price;
  far = second.far ∙ first.far;
  closed = second.closed ∙ first.closed;
}

-- after one column more those that are listed so far are settled
pub settled-next : (fall : ℕ) (was now end : Columns) (enter enter' enter'' : List ℕ) (v w : ℕ → Option ℕ) (column weight : ℕ)
    → IsMore v w column weight
    → ((j : ℕ) → v j ≢ None → IsSettled fall was enter now enter' j) → ((j : ℕ) → v j ≡ None → IsKept was enter now enter' j)
    → IsSettled fall now enter' end enter'' column → ((j : ℕ) → j ≢ column → IsKept now enter' end enter'' j)
    → (j : ℕ) → w j ≢ None → IsSettled fall was enter end enter'' j
settled-next fall was now end enter enter' enter'' v w column weight more settled kept here others j lists = ⊎_elim
    (λ (same : column ≡ j).
    subst (IsSettled fall was enter end enter'') same
    (kept-settled fall was now end enter enter' enter'' column (kept column more.none) here))
    (λ (other : column ≡ j → ⊥).
    settled-kept fall was now end enter enter' enter'' j (settled j (λ none. lists (more.others j other ∙ none)))
    (others j (λ e. other (sym e))))
    (cases_eq column j)

-- and others are as they were
pub kept-next : (was now end : Columns) (enter enter' enter'' : List ℕ) (v w : ℕ → Option ℕ) (column weight : ℕ)
    → IsMore v w column weight
    → ((j : ℕ) → v j ≡ None → IsKept was enter now enter' j) → ((j : ℕ) → j ≢ column → IsKept now enter' end enter'' j)
    → (j : ℕ) → w j ≡ None → IsKept was enter end enter'' j
kept-next was now end enter enter' enter'' v w column weight more kept others j none = ⊎_elim
    (λ (same : column ≡ j). absurd (none-some weight (sym none ∙ ap w (sym same) ∙ more.here)))
    (λ (other : column ≡ j → ⊥).
    kept-twice was now end enter enter' enter'' j (kept j (sym (more.others j other) ∙ none)) (others j (λ e. other (sym e))))
    (cases_eq column j)

-- a row settles the columns that it lists, and keeps the others
module _ (fall : ℕ) (was now end : Columns) (enter enter' enter'' : List ℕ) (v : ℕ → Option ℕ) (low : fall ≤ 4503599627370496)
    (settled : (j : ℕ) → v j ≢ None → IsSettled fall now enter' end enter'' j)
    (kept : (j : ℕ) → v j ≡ None → IsKept now enter' end enter'' j) where
  -- a column stays settled
  pub settled-after : (j : ℕ) → IsSettled fall was enter now enter' j → IsSettled fall was enter end enter'' j
  settled-after j before = by (v j) refl
    where
      by : (value : Option ℕ) → v j ≡ value → IsSettled fall was enter end enter'' j
      by None e = settled-kept fall was now end enter enter' enter'' j before (kept j e)
      by (Some k) e =
          settled-twice fall was now end enter enter' enter'' j low before (settled j (λ none. none-some k (sym none ∙ e)))

  -- and one that the row lists is settled
  pub settled-here : (j : ℕ) → IsSettled fall was enter now enter' j ⊎ IsKept was enter now enter' j → v j ≢ None
      → IsSettled fall was enter end enter'' j
  settled-here j (inl before) lists = settled-after j before
  settled-here j (inr before) lists = kept-settled fall was now end enter enter' enter'' j before (settled j lists)

  pub either-after : (j : ℕ) → IsSettled fall was enter now enter' j ⊎ IsKept was enter now enter' j
      → IsSettled fall was enter end enter'' j ⊎ IsKept was enter end enter'' j
  either-after j (inl before) = inl (settled-after j before)
  either-after j (inr before) = by (v j) refl
    where
      by : (value : Option ℕ) → v j ≡ value → IsSettled fall was enter end enter'' j ⊎ IsKept was enter end enter'' j
      by None e = inr (kept-twice was now end enter enter' enter'' j before (kept j e))
      by (Some k) e =
          inl (kept-settled fall was now end enter enter' enter'' j before (settled j (λ none. none-some k (sym none ∙ e))))

-- a column that is near has not gained, and its price is low
pub either-low : (fall : ℕ) (was now : Columns) (enter enter' : List ℕ) (j : ℕ) → fall ≤ 4503599627370496
    → IsSettled fall was enter now enter' j ⊎ IsKept was enter now enter' j
    → (at was.dist j < fall → at enter j ≤ 4503599627370496) → at now.dist j < fall → at enter' j ≤ 4503599627370496
either-low fall was now enter enter' j most (inl settled) low near = absurd (omega (arith, settled.far, near, most))
either-low fall was now enter enter' j most (inr kept) low near = low-next fall was enter now enter' j kept low near

-- where columns that were reached are settled, all have gained, and are far and not done
module _ (fall n : ℕ) (was now : Columns) (enter enter' : List ℕ) (low : fall ≤ 4503599627370496)
    (reached : (j : ℕ) → j < n → at was.dist j < 4503599627370497 → IsSettled fall was enter now enter' j)
    (either : (j : ℕ) → IsSettled fall was enter now enter' j ⊎ IsKept was enter now enter' j) where
  pub all-gained : (j : ℕ) → j < n → at enter' j ≡ at enter j + (fall - at was.dist j)
  all-gained j lt = ⊎_elim
      (λ (near : at was.dist j < 4503599627370497). (reached j lt near).gained)
      (λ (far : 4503599627370497 ≤ at was.dist j). ⊎_elim
      (λ (settled : IsSettled fall was enter now enter' j). settled.gained)
      (λ (kept : IsKept was enter now enter' j). omega (arith, kept.price, far, low))
      (either j))
      (cases_lt (at was.dist j) 4503599627370497)

  pub all-far : length now.dist ≡ n → ((j : ℕ) → at was.dist j ≤ 4503599627370497) → now.dist ≡ replicate n 4503599627370497
  all-far len most =
      ext_get_or 0 now.dist (replicate n 4503599627370497) (len ∙ sym (length-replicate {A = ℕ} n 4503599627370497))
      (λ j lt. let inside : j < n = omega (arith, lt, len) in
      by j inside (cases_lt (at was.dist j) 4503599627370497) ∙ sym (get_or-replicate n j 4503599627370497 0 inside))
    where
      by : (j : ℕ) → j < n → (at was.dist j < 4503599627370497) ⊎ (4503599627370497 ≤ at was.dist j)
          → at now.dist j ≡ 4503599627370497
      by j lt (inl near) = (reached j lt near).far
      by j lt (inr far) = ⊎_elim
          (λ (settled : IsSettled fall was enter now enter' j). settled.far)
          (λ (kept : IsKept was enter now enter' j). omega (arith, kept.far, far, most j))
          (either j)

  pub all-undone : length now.done ≡ n → ((j : ℕ) → j < n → is_done was.done j ≡ true → at was.dist j < 4503599627370497)
      → now.done ≡ replicate n false
  all-undone len done =
      ext_get_or false now.done (replicate n false) (len ∙ sym (length-replicate {A = Bool} n false))
      (λ j lt. let inside : j < n = omega (arith, lt, len) in
      by j inside (is_done was.done j) refl ∙ sym (get_or-replicate n j false false inside))
    where
      by : (j : ℕ) → j < n → (closed : Bool) → is_done was.done j ≡ closed → is_done now.done j ≡ false
      by j lt true e = (reached j lt (done j lt e)).undone
      by j lt false e = ⊎_elim
          (λ (settled : IsSettled fall was enter now enter' j). settled.undone)
          (λ (kept : IsKept was enter now enter' j). kept.closed ∙ e)
          (either j)
