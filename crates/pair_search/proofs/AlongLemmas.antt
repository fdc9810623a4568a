-- Prices are shifted along the rows of a tree, place by place.
use Rattle.std.proofs.Common.{◌≡◌, ◌≢◌, ℕ, ◌+◌, ◌-◌, ◌<◌, ◌≤◌, List, length, set, Option, None, Some, refl, sym, ap, subst, ◌∙◌, ⊎_elim, arith}
use Rattle.std.specs.Prelude.{IfSome, IfNone}
use Rattle.std.proofs.lemmas.Bool.{cases_eq, cases_lt}
use Rattle.std.proofs.lemmas.List.{get_or-set_same, get_or-set_other}
use Rattle.std.proofs.lemmas.Option.{none-some, same_Some}
use Rattle.trip_model.specs.Links.{next_of}
use Rattle.pair_search.specs.Relinking.{lost, IsShifted, IsAlong}
use Rattle.pair_search.specs.Search.{at}

-- what prices are when the rows at the places before one have lost theirs: those of later places, of columns that are not
-- nearer than prices fall, and of rows that are linked to none of the nearer ones, are as before
pub record IsShiftedUpto (next : List (Option ℕ)) (dist far rows : List ℕ) (size fall place : ℕ) (leave enter leave' enter' : List ℕ)
    : Type 0 where
  pub lowered : (t : ℕ) → t < place → at leave' (at rows t) ≡ at leave (at rows t) - (fall - at far t)
  pub raised : (t j : ℕ) → t < place → next_of next (at rows t) ≡ Some j → at enter' j ≡ at enter j + (fall - at far t)
  pub rows_after : (t : ℕ) → place ≤ t → t < size → at leave' (at rows t) ≡ at leave (at rows t)
  pub columns_after : (t j : ℕ) → place ≤ t → t < size → next_of next (at rows t) ≡ Some j → at enter' j ≡ at enter j
  pub rows_kept : (i : ℕ) → i ≢ at rows 0 → lost dist fall (next_of next i) ≡ 0 → at leave' i ≡ at leave i
  pub columns_kept : (j : ℕ) → fall ≤ at dist j → at enter' j ≡ at enter j

pub IsShiftedUpto-first : (next : List (Option ℕ)) (dist far rows : List ℕ) (size fall : ℕ) (leave enter : List ℕ)
    → IsShiftedUpto next dist far rows size fall 0 leave enter leave enter
IsShiftedUpto-first next dist far rows size fall leave enter = record {
  lowered = λ t lt. absurd (omega (arith, lt));
  raised = λ t j lt. absurd (omega (arith, lt));
  rows_after = λ t _ _. refl;
  columns_after = λ t j _ _ _. refl;
  rows_kept = λ i _ _. refl;
  columns_kept = λ j _. refl;
}

-- rows at two places are the same only at the same place
same-place : (next : List (Option ℕ)) (dist far rows : List ℕ) (size fall : ℕ) → IsAlong next dist far rows size fall
    → (r t : ℕ) → r < size → t < size → at rows r ≡ at rows t → r ≡ t
same-place next dist far rows size fall along r t lt lt' same = ⊎_elim
    (λ (less : r < t). absurd (along.apart r t less lt' same))
    (λ (le : t ≤ r). ⊎_elim
    (λ (more : t < r). absurd (along.apart t r more lt (sym same)))
    (λ (le' : r ≤ t). omega (arith, le, le'))
    (cases_lt t r))
    (cases_lt r t)

-- a column that a row of the tree is linked to is as far as that row
far-at : (next : List (Option ℕ)) (dist far rows : List ℕ) (size fall : ℕ) → IsAlong next dist far rows size fall
    → (t j : ℕ) → t < size → next_of next (at rows t) ≡ Some j → (0 < t) × (at dist j ≡ at far t)
far-at next dist far rows size fall along t j lt linked = ⊎_elim
    (λ (e : t ≡ 0). absurd (none-some j (sym along.root.1 ∙ ap (λ r. next_of next (at rows r)) (sym e) ∙ linked)))
    (λ (ne : t ≡ 0 → ⊥).
    let positive : 0 < t = omega arith in
    let via = along.via t positive lt in
    (positive, ap (at dist) (same_Some j via.0 (sym linked ∙ via.1)) ∙ via.2))
    (cases_eq t 0)

-- what the row at a place, other than the first, loses as it is linked
lost-at : (next : List (Option ℕ)) (dist far rows : List ℕ) (size fall : ℕ) → IsAlong next dist far rows size fall
    → (t : ℕ) → 0 < t → t < size → lost dist fall (next_of next (at rows t)) ≡ fall - at far t
lost-at next dist far rows size fall along t positive lt =
    let via = along.via t positive lt in
    ap (lost dist fall) via.1 ∙ ap (λ d. fall - d) via.2

-- the row at the next place loses its own, and its column gains it
pub IsShiftedUpto-more : (next : List (Option ℕ)) (dist far rows : List ℕ) (size fall place gain : ℕ)
    (leave enter leave' enter' leave'' enter'' : List ℕ)
    → IsAlong next dist far rows size fall → place < size → gain ≡ fall - at far place
    → length leave' ≡ length next → ((i j : ℕ) → next_of next i ≡ Some j → j < length enter')
    → leave'' ≡ set leave' (at rows place) (at leave' (at rows place) - gain)
    → IfSome (next_of next (at rows place)) (λ j. enter'' ≡ set enter' j (at enter' j + gain))
    → IfNone (next_of next (at rows place)) (enter'' ≡ enter')
    → IsShiftedUpto next dist far rows size fall place leave enter leave' enter'
    → IsShiftedUpto next dist far rows size fall (place + 1) leave enter leave'' enter''
IsShiftedUpto-more next dist far rows size fall place gain leave enter leave' enter' leave'' enter'' along lt gain-is len within leaves some none
    upto = record {
      lowered = λ t less. ⊎_elim
          (λ (e : t ≡ place).
          let row : at rows t ≡ at rows place = ap (at rows) e in
          let far-is : at far t ≡ at far place = ap (at far) e in
          ap (at leave'') row ∙ row-at ∙ omega (arith, upto.rows_after place (omega arith) lt, gain-is, far-is, ap (at leave) row))
          (λ (ne : t ≡ place → ⊥).
          let before : t < place = omega (arith, less) in
          row-other (at rows t) (λ e. ne (same-place next dist far rows size fall along t place (omega (arith, before, lt)) lt e))
          ∙ upto.lowered t before)
          (cases_eq t place);
      raised = λ t j less linked. ⊎_elim
          (λ (e : t ≡ place).
          let far-is : at far t ≡ at far place = ap (at far) e in
          let to : next_of next (at rows place) ≡ Some j = ap (λ r. next_of next (at rows r)) (sym e) ∙ linked in
          omega (arith, column-at j to, upto.columns_after place j (omega arith) lt to, gain-is, far-is))
          (λ (ne : t ≡ place → ⊥).
          let before : t < place = omega (arith, less) in
          column-other t j (omega (arith, before, lt)) ne linked ∙ upto.raised t j before linked)
          (cases_eq t place);
      rows_after = λ t from less.
          row-other (at rows t) (λ e. absurd (along.apart place t (omega (arith, from)) less (sym e)))
          ∙ upto.rows_after t (omega (arith, from)) less;
      columns_after = λ t j from less linked.
          column-other t j less (λ e. absurd (omega (arith, e, from))) linked ∙ upto.columns_after t j (omega (arith, from)) less linked;
      rows_kept = λ i other loses. ⊎_elim
          (λ (e : i ≡ at rows place). ⊎_elim
          (λ (first : place ≡ 0). absurd (other (e ∙ ap (at rows) first)))
          (λ (ne : place ≡ 0 → ⊥).
          let none-lost : fall - at far place ≡ 0 =
          sym (lost-at next dist far rows size fall along place (omega arith) lt) ∙ ap (λ r. lost dist fall (next_of next r)) (sym e) ∙ loses in
          ap (at leave'') e ∙ row-at ∙ omega (arith, gain-is, none-lost, ap (at leave') e, upto.rows_kept i other loses))
          (cases_eq place 0))
          (λ (ne : i ≡ at rows place → ⊥). row-other i ne ∙ upto.rows_kept i other loses)
          (cases_eq i (at rows place));
      columns_kept = λ j past. column-past j past (next_of next (at rows place)) refl ∙ upto.columns_kept j past;
    }
  where
    row-at : at leave'' (at rows place) ≡ at leave' (at rows place) - gain
    row-at =
        ap (λ xs. at xs (at rows place)) leaves
        ∙ get_or-set_same leave' (at rows place) (at leave' (at rows place) - gain) 0 (omega (arith, (along.within place lt).0, len))

    row-other : (i : ℕ) → (i ≡ at rows place → ⊥) → at leave'' i ≡ at leave' i
    row-other i other =
        ap (λ xs. at xs i) leaves ∙ get_or-set_other leave' (at rows place) i (at leave' (at rows place) - gain) 0 other

    column-at : (j : ℕ) → next_of next (at rows place) ≡ Some j → at enter'' j ≡ at enter' j + gain
    column-at j to =
        ap (λ xs. at xs j) (subst (λ o. IfSome o (λ j. enter'' ≡ set enter' j (at enter' j + gain))) to some)
        ∙ get_or-set_same enter' j (at enter' j + gain) 0 (within (at rows place) j to)

    column-kept : (j : ℕ) → (next_of next (at rows place) ≡ Some j → ⊥) → (to : Option ℕ) → next_of next (at rows place) ≡ to
        → at enter'' j ≡ at enter' j
    column-kept j other None e = ap (λ xs. at xs j) (subst (λ o. IfNone o (enter'' ≡ enter')) e none)
    column-kept j other (Some h) e =
        ap (λ xs. at xs j) (subst (λ o. IfSome o (λ j. enter'' ≡ set enter' j (at enter' j + gain))) e some)
        ∙ get_or-set_other enter' h j (at enter' h + gain) 0 (λ same. other (e ∙ ap Some (sym same)))

    column-other : (t j : ℕ) → t < size → (t ≡ place → ⊥) → next_of next (at rows t) ≡ Some j → at enter'' j ≡ at enter' j
    column-other t j less ne linked =
        column-kept j (λ to. ne (same-place next dist far rows size fall along t place less lt (along.once (at rows t) (at rows place) j linked to)))
        (next_of next (at rows place)) refl

    column-past : (j : ℕ) → fall ≤ at dist j → (to : Option ℕ) → next_of next (at rows place) ≡ to → at enter'' j ≡ at enter' j
    column-past j past None e = column-kept j (λ to. none-some j (sym e ∙ to)) None e
    column-past j past (Some h) e = ⊎_elim
        (λ (same : j ≡ h).
        let to : next_of next (at rows place) ≡ Some j = e ∙ ap Some (sym same) in
        omega (arith, column-at j to, gain-is, past, (far-at next dist far rows size fall along place j lt to).1))
        (λ (ne : j ≡ h → ⊥). column-kept j (λ to. ne (same_Some j h (sym to ∙ e))) (Some h) e)
        (cases_eq j h)

-- when all rows of the tree have lost theirs, prices are shifted
pub IsShifted-along : (next : List (Option ℕ)) (dist far rows : List ℕ) (size fall : ℕ) (leave enter leave' enter' : List ℕ)
    → IsAlong next dist far rows size fall → length enter ≡ length dist → ((i j : ℕ) → next_of next i ≡ Some j → j < length enter)
    → IsShiftedUpto next dist far rows size fall size leave enter leave' enter'
    → IsShifted (length enter) (at rows 0) next dist fall leave enter leave' enter'
IsShifted-along next dist far rows size fall leave enter leave' enter' along len within upto = record {
  root = omega (arith, upto.lowered 0 along.root.0, along.root.2);
  rows = λ i other. by i other (next_of next i) refl;
  columns = λ j lt. ⊎_elim
      (λ (near : at dist j < fall).
      let placed = along.near j (omega (arith, lt, len)) near in
      omega (arith, upto.raised placed.0 j placed.1 placed.2, (far-at next dist far rows size fall along placed.0 j placed.1 placed.2).1))
      (λ (past : fall ≤ at dist j). omega (arith, upto.columns_kept j past, past))
      (cases_lt (at dist j) fall);
}
  where
    by : (i : ℕ) → i ≢ at rows 0 → (to : Option ℕ) → next_of next i ≡ to → at leave' i ≡ at leave i - lost dist fall (next_of next i)
    by i other None e =
        let loses : lost dist fall (next_of next i) ≡ 0 = ap (lost dist fall) e in
        omega (arith, loses, upto.rows_kept i other loses)
    by i other (Some j) e =
        let loses : lost dist fall (next_of next i) ≡ fall - at dist j = ap (lost dist fall) e in
        ⊎_elim
        (λ (near : at dist j < fall).
        let placed = along.near j (omega (arith, within i j e, len)) near in
        let same : at rows placed.0 ≡ i = along.once (at rows placed.0) i j placed.2 e in
        omega (
          arith,
          loses,
          ap (at leave) same,
          ap (at leave') same,
          upto.lowered placed.0 placed.1,
          (far-at next dist far rows size fall along placed.0 j placed.1 placed.2).1,
        ))
        (λ (past : fall ≤ at dist j).
        let none-lost : lost dist fall (next_of next i) ≡ 0 = omega (arith, loses, past) in
        omega (arith, none-lost, upto.rows_kept i other none-lost))
        (cases_lt (at dist j) fall)
