-- What rows list, pair by pair, and how they are cut.
use Rattle.std.proofs.Common.{◌≡◌, ◌≢◌, ℕ, zero, suc, ◌+◌, ◌-◌, ◌<◌, ◌≤◌, List, [], ◌∷◌, ◌++◌, length, take, drop}
use Rattle.std.proofs.Common.{get_or, None, Some, if◌then◌else◌, refl, sym, ap, ◌∙◌, ⊎_elim, arith}
use Rattle.std.proofs.Math.Seq.{take-length}
use Rattle.std.proofs.lemmas.Bool.{cases_eq, cases_lt, eq-eqb, ne_eqb}
use Rattle.std.proofs.lemmas.List.{drop-append-le, get_or_past, length-drop, take-append-le, take_more}
use Rattle.list_search.proofs.LookedLemmas.{IsMore}
use Rattle.std.proofs.lemmas.Option.{none-some, same_Some}
use Rattle.std.specs.List.{All}
use Rattle.pair_search.specs.Assignment.{AreWeights}
use Rattle.list_search.specs.Lists.{ListsView, row_at, listed, value_of, IsRowFrom, IsRow, behind, rows_cut, cut_end, IsCut}
use Rattle.list_search.specs.declared.lists.Pair.{Pair}

-- lists of these rows
abbrev pub view_with : ℕ → List (List Pair) → List Pair → ListsView
view_with slots rows begun = record { slots = slots; rows = rows; begun = begun }

-- the value of the first of pairs
value-here : (p : Pair) (pairs : List Pair) (j : ℕ) → p.column ≡ j → value_of (p ∷ pairs) j ≡ Some p.value
value-here p pairs j e = ap (λ b. if b then Some p.value else value_of pairs j) (eq-eqb p.column j e)

value-past : (p : Pair) (pairs : List Pair) (j : ℕ) → p.column ≢ j → value_of (p ∷ pairs) j ≡ value_of pairs j
value-past p pairs j ne = ap (λ b. if b then Some p.value else value_of pairs j) (ne_eqb p.column j ne)

-- a column that is listed is among those of the row, and its value is not above the greatest
pub value-some : (slots from : ℕ) (pairs : List Pair) (j k : ℕ) → IsRowFrom slots from pairs → value_of pairs j ≡ Some k
    → (from ≤ j) × (j < slots) × (k ≤ 4503599627370496)
value-some slots from [] j k row e = absurd (none-some k e)
value-some slots from (p ∷ pairs) j k row e = ⊎_elim
    (λ (here : p.column ≡ j).
    let same = same_Some p.value k (sym (value-here p pairs j here) ∙ e) in
    (omega (arith, row.0, here), omega (arith, row.1, here), omega (arith, row.2, same)))
    (λ (past : p.column ≡ j → ⊥).
    let rest = value-some slots (p.column + 1) pairs j k row.3 (sym (value-past p pairs j past) ∙ e) in
    (omega (arith, row.0, rest.0), rest.1, rest.2))
    (cases_eq p.column j)

-- the pair at a place
pub pair-at : (slots from : ℕ) (pairs : List Pair) (k : ℕ) (d : Pair) → IsRowFrom slots from pairs → k < length pairs
    → (from ≤ (get_or pairs k d).column) × ((get_or pairs k d).column < slots) × ((get_or pairs k d).value ≤ 4503599627370496)
pair-at slots from [] k d row lt = absurd (omega (arith, lt))
pair-at slots from (p ∷ pairs) zero d row lt = (row.0, row.1, row.2)
pair-at slots from (p ∷ pairs) (suc k) d row lt =
    let rest = pair-at slots (p.column + 1) pairs k d row.3 (omega (arith, lt)) in
    (omega (arith, row.0, rest.0), rest.1, rest.2)

-- has the value that its column has
pub value-at : (slots from : ℕ) (pairs : List Pair) (k : ℕ) (d : Pair) → IsRowFrom slots from pairs → k < length pairs
    → value_of pairs (get_or pairs k d).column ≡ Some (get_or pairs k d).value
value-at slots from [] k d row lt = absurd (omega (arith, lt))
value-at slots from (p ∷ pairs) zero d row lt = value-here p pairs p.column refl
value-at slots from (p ∷ pairs) (suc k) d row lt =
    let rest = pair-at slots (p.column + 1) pairs k d row.3 (omega (arith, lt)) in
    value-past p pairs (get_or pairs k d).column (λ e. absurd (omega (arith, e, rest.0)))
    ∙ value-at slots (p.column + 1) pairs k d row.3 (omega (arith, lt))

-- and none before it has the column
pub value-fresh : (slots from : ℕ) (pairs : List Pair) (k : ℕ) (d : Pair) → IsRowFrom slots from pairs → k < length pairs
    → value_of (take k pairs) (get_or pairs k d).column ≡ None
value-fresh slots from [] k d row lt = absurd (omega (arith, lt))
value-fresh slots from (p ∷ pairs) zero d row lt = refl
value-fresh slots from (p ∷ pairs) (suc k) d row lt =
    let rest = pair-at slots (p.column + 1) pairs k d row.3 (omega (arith, lt)) in
    value-past p (take k pairs) (get_or pairs k d).column (λ e. absurd (omega (arith, e, rest.0)))
    ∙ value-fresh slots (p.column + 1) pairs k d row.3 (omega (arith, lt))

-- a pair behind others has its value where its column was not among theirs
pub value-new : (pairs : List Pair) (p : Pair) → value_of pairs p.column ≡ None → value_of (pairs ++ p ∷ []) p.column ≡ Some p.value
value-new [] p none = value-here p [] p.column refl
value-new (q ∷ pairs) p none = ⊎_elim
    (λ (here : q.column ≡ p.column). absurd (none-some q.value (sym none ∙ value-here q pairs p.column here)))
    (λ (past : q.column ≡ p.column → ⊥).
    value-past q (pairs ++ p ∷ []) p.column past ∙ value-new pairs p (sym (value-past q pairs p.column past) ∙ none))
    (cases_eq q.column p.column)

-- and of other columns nothing changes
pub value-other : (pairs : List Pair) (p : Pair) (j : ℕ) → p.column ≢ j → value_of (pairs ++ p ∷ []) j ≡ value_of pairs j
value-other [] p j ne = value-past p [] j ne
value-other (q ∷ pairs) p j ne = ⊎_elim
    (λ (here : q.column ≡ j). value-here q (pairs ++ p ∷ []) j here ∙ sym (value-here q pairs j here))
    (λ (past : q.column ≡ j → ⊥).
    value-past q (pairs ++ p ∷ []) j past ∙ value-other pairs p j ne ∙ sym (value-past q pairs j past))
    (cases_eq q.column j)

-- a row with a pair more
pub IsRow-push : (slots from : ℕ) (pairs : List Pair) (p : Pair) → IsRowFrom slots from pairs → behind from pairs ≤ p.column
    → p.column < slots → p.value ≤ 4503599627370496 → IsRowFrom slots from (pairs ++ p ∷ [])
IsRow-push slots from [] p row after within most = (after, within, most, tt)
IsRow-push slots from (q ∷ pairs) p row after within most =
    (row.0, row.1, row.2, IsRow-push slots (q.column + 1) pairs p row.3 after within most)

-- the next may come behind it
pub behind-push : (from : ℕ) (pairs : List Pair) (p : Pair) → behind from (pairs ++ p ∷ []) ≡ p.column + 1
behind-push from [] p = refl
behind-push from (q ∷ pairs) p = behind-push (q.column + 1) pairs p

-- rows end among the pairs
pub cut-within : (from : ℕ) (ends : List ℕ) (many : ℕ) → IsCut from ends many → (from ≤ cut_end from ends) × (cut_end from ends ≤ many)
cut-within from [] many cut = (omega arith, cut)
cut-within from (end ∷ ends) many cut = let rest = cut-within end ends many cut.1 in (omega (arith, cut.0, rest.0), rest.1)

-- they do so among more
pub cut-more : (from : ℕ) (ends : List ℕ) (many more : ℕ) → many ≤ more → IsCut from ends many → IsCut from ends more
cut-more from [] many more le cut = omega (arith, le, cut)
cut-more from (end ∷ ends) many more le cut = (cut.0, cut-more end ends many more le cut.1)

-- and a row more may end where the pairs do
pub cut-row : (from : ℕ) (ends : List ℕ) (many : ℕ) → IsCut from ends many → IsCut from (ends ++ many ∷ []) many
cut-row from [] many cut = (cut, omega arith)
cut-row from (end ∷ ends) many cut = (cut.0, cut-row end ends many cut.1)

pub cut_end-row : (from : ℕ) (ends : List ℕ) (many : ℕ) → cut_end from (ends ++ many ∷ []) ≡ many
cut_end-row from [] many = refl
cut_end-row from (end ∷ ends) many = cut_end-row end ends many

-- pairs behind the last row leave the rows as they are
pub rows-push : (from : ℕ) (ends : List ℕ) (pairs more : List Pair) → IsCut from ends (length pairs)
    → rows_cut from ends (pairs ++ more) ≡ rows_cut from ends pairs
rows-push from [] pairs more cut = refl
rows-push from (end ∷ ends) pairs more cut =
    let within = cut-within end ends (length pairs) cut.1 in
    ap (λ (row : List Pair). row ∷ rows_cut end ends (pairs ++ more))
    (ap (take (end - from)) (drop-append-le from pairs more (omega (arith, cut.0, within.0, within.1)))
    ∙ take-append-le (end - from) (drop from pairs) more (omega (arith, cut.0, within.0, within.1, length-drop from pairs)))
    ∙ ap (λ (rows : List (List Pair)). take (end - from) (drop from pairs) ∷ rows) (rows-push end ends pairs more cut.1)

-- what stands behind them is the row that is added
pub rows-row : (from : ℕ) (ends : List ℕ) (pairs : List Pair) → IsCut from ends (length pairs)
    → rows_cut from (ends ++ length pairs ∷ []) pairs ≡ rows_cut from ends pairs ++ drop (cut_end from ends) pairs ∷ []
rows-row from [] pairs cut =
    ap (λ (row : List Pair). row ∷ []) (ap (λ n. take n (drop from pairs)) (sym (length-drop from pairs)) ∙ take-length (drop from pairs))
rows-row from (end ∷ ends) pairs cut =
    ap (λ (rows : List (List Pair)). take (end - from) (drop from pairs) ∷ rows) (rows-row end ends pairs cut.1)

-- there is a row for each end
pub rows-length : (from : ℕ) (ends : List ℕ) (pairs : List Pair) → length (rows_cut from ends pairs) ≡ length ends
rows-length from [] pairs = refl
rows-length from (end ∷ ends) pairs = ap suc (rows-length end ends pairs)

-- a row begins where the one before ends
pub row-cut : (from : ℕ) (ends : List ℕ) (pairs : List Pair) (i : ℕ) → i < length ends
    → get_or (rows_cut from ends pairs) i [] ≡ take (get_or ends i 0 - get_or (from ∷ ends) i 0) (drop (get_or (from ∷ ends) i 0) pairs)
row-cut from [] pairs i lt = absurd (omega (arith, lt))
row-cut from (end ∷ ends) pairs zero lt = refl
row-cut from (end ∷ ends) pairs (suc i) lt = row-cut end ends pairs i (omega (arith, lt))

pub row-within : (from : ℕ) (ends : List ℕ) (many i : ℕ) → IsCut from ends many → i < length ends
    → (get_or (from ∷ ends) i 0 ≤ get_or ends i 0) × (get_or ends i 0 ≤ many)
row-within from [] many i cut lt = absurd (omega (arith, lt))
row-within from (end ∷ ends) many zero cut lt = let rest = cut-within end ends many cut.1 in (cut.0, omega (arith, rest.0, rest.1))
row-within from (end ∷ ends) many (suc i) cut lt = row-within end ends many i cut.1 (omega (arith, lt))

-- the value of a column among one pair more
pub value-next : (slots from : ℕ) (pairs : List Pair) (k : ℕ) (d : Pair) → IsRowFrom slots from pairs → k < length pairs
    → IsMore (value_of (take k pairs)) (value_of (take (k + 1) pairs)) (get_or pairs k d).column (get_or pairs k d).value
value-next slots from pairs k d row lt =
    let fresh = value-fresh slots from pairs k d row lt in
    record {
      none = fresh;
      here = ap (λ ps. value_of ps (get_or pairs k d).column) (take_more pairs k d lt) ∙ value-new (take k pairs) (get_or pairs k d) fresh;
      others = λ j ne. ap (λ ps. value_of ps j) (take_more pairs k d lt) ∙ value-other (take k pairs) (get_or pairs k d) j ne;
    }

-- the values that rows list are weights
pub AreWeights-listed : (lists : ListsView) → All (IsRow lists.slots) lists.rows → length lists.rows ≤ lists.slots
    → AreWeights (listed lists) lists.slots
AreWeights-listed lists rows few = record {
  within = λ i j k e. ⊎_elim
      (λ (lt : i < length lists.rows).
      (omega (arith, lt, few), (value-some lists.slots 0 (row_at lists i) j k (rows i [] lt) e).1))
      (λ (past : length lists.rows ≤ i).
      absurd (none-some k (sym (ap (λ ps. value_of ps j) (get_or_past lists.rows i [] past)) ∙ e)))
      (cases_lt i (length lists.rows));
  most = λ i j k e. ⊎_elim
      (λ (lt : i < length lists.rows). (value-some lists.slots 0 (row_at lists i) j k (rows i [] lt) e).2)
      (λ (past : length lists.rows ≤ i).
      absurd (none-some k (sym (ap (λ ps. value_of ps j) (get_or_past lists.rows i [] past)) ∙ e)))
      (cases_lt i (length lists.rows));
}
