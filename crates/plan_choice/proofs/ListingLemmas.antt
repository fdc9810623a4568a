-- The row of a slot, pair by pair.
use Rattle.std.proofs.Common.{◌≡◌, ℕ, ◌+◌, ◌<◌, ◌≤◌, List, [], ◌∷◌, ◌++◌, length, get_or, Option, None, Some}
use Rattle.std.proofs.Common.{refl, sym, ap, ◌∙◌, subst, ⊎_elim, arith}
use Rattle.std.proofs.lemmas.Bool.{cases_eq, cases_lt}
use Rattle.std.proofs.lemmas.List.{get_or_append_left, get_or_past, get_or_push, length_push}
use Rattle.assignment_model.specs.Choice.{worth_of}
use Rattle.assignment_model.specs.Prices.{Plan}
use Rattle.list_search.specs.Lists.{ListsView, listed, value_of, behind}
use Rattle.list_search.specs.declared.lists.Pair.{Pair}
use Rattle.list_search.proofs.ListLemmas.{value-new, value-other, behind-push}
use Rattle.pair_graph.specs.Pairs.{PairsView}
use Rattle.pair_search.proofs.FitLemmas.{idle}
use Rattle.plan_choice.specs.Chosen.{pair_liking}
use Rattle.plan_choice.specs.Likings.{LikingsView}
use Rattle.plan_choice.specs.Listing.{pair_worths, with_value, IsListed, AreListed}

-- a row that lists nothing yet
pub IsListed-none : (w : ℕ → Option ℕ) (row : List Pair) → row ≡ [] → IsListed w 0 row
IsListed-none w row empty = record {
  below = λ j lt. absurd (omega (arith, lt));
  past = λ j le. ap (λ r. value_of r j) empty;
  behind = subst (λ r. behind 0 r ≤ 0) (sym empty) (omega arith);
}

-- a column without a value is passed
passed : (w : ℕ → Option ℕ) (j : ℕ) (row : List Pair) → IsListed w j row → w j ≡ None → IsListed w (j + 1) row
passed w j row is none = record {
  below = λ k lt. ⊎_elim
      (λ (here : k ≡ j). is.past k (omega (arith, here)) ∙ sym (ap w here ∙ none))
      (λ (other : k ≡ j → ⊥). is.below k (omega (arith, lt, other)))
      (cases_eq k j);
  past = λ k le. is.past k (omega (arith, le));
  behind = omega (arith, is.behind);
}

-- and one with a value is listed
pushed : (w : ℕ → Option ℕ) (j value : ℕ) (row : List Pair) → IsListed w j row → w j ≡ Some value
    → IsListed w (j + 1) (row ++ record { column = j; value = value } ∷ [])
pushed w j value row is some =
    let pair : Pair = record { column = j; value = value } in
    record {
      below = λ k lt. ⊎_elim
          (λ (here : k ≡ j).
          ap (value_of (row ++ pair ∷ [])) here ∙ value-new row pair (is.past j (omega arith)) ∙ sym (ap w here ∙ some))
          (λ (other : k ≡ j → ⊥).
          value-other row pair k (λ e. other (sym e)) ∙ is.below k (omega (arith, lt, other)))
          (cases_eq k j);
      past = λ k le. value-other row pair k (λ e. absurd (omega (arith, e, le))) ∙ is.past k (omega (arith, le));
      behind = omega (arith, behind-push 0 row pair);
    }

-- so one column more is listed
pub IsListed-more : (w : ℕ → Option ℕ) (j : ℕ) (value : Option ℕ) (row row' : List Pair) → IsListed w j row → value ≡ w j
    → row' ≡ with_value row j value → IsListed w (j + 1) row'
IsListed-more w j None row row' is e more = subst (IsListed w (j + 1)) (sym more) (passed w j row is (sym e))
IsListed-more w j (Some value) row row' is e more = subst (IsListed w (j + 1)) (sym more) (pushed w j value row is (sym e))

-- a row that is complete is one more of the rows
pub AreListed-row : (w : ℕ → ℕ → Option ℕ) (slots i : ℕ) (lists lists' : ListsView) (row : List Pair) → AreListed w slots i lists
    → IsListed (w i) slots row → ((j : ℕ) → slots ≤ j → w i j ≡ None) → lists'.slots ≡ lists.slots
    → lists'.rows ≡ lists.rows ++ row ∷ [] → lists'.begun ≡ [] → AreListed w slots (i + 1) lists'
AreListed-row w slots i lists lists' row are is past same rows begun = record {
  slots = same ∙ are.slots;
  count = omega (arith, ap length rows, length-row, are.count);
  begun = begun;
  each = λ h j lt. ap (λ (r : List (List Pair)). value_of (get_or r h []) j) rows ∙ ⊎_elim
      (λ (before : h < i).
      ap (λ r. value_of r j) (get_or_append_left lists.rows (row ∷ []) [] h (omega (arith, before, are.count)))
      ∙ are.each h j before)
      (λ (here : i ≤ h).
      let at : h ≡ i = omega (arith, here, lt) in
      ap (λ r. value_of r j) (get_or_push lists.rows row [] h (omega (arith, at, are.count))) ∙ value j ∙ ap (λ k. w k j) (sym at))
      (cases_lt h i);
}
  where
    length-row : length (lists.rows ++ row ∷ []) ≡ length lists.rows + 1
    length-row = length_push lists.rows row

    value : (j : ℕ) → value_of row j ≡ w i j
    value j = ⊎_elim
        (λ (lt : j < slots). is.below j lt)
        (λ (le : slots ≤ j). is.past j le ∙ sym (past j le))
        (cases_lt j slots)

-- past the last slot no pair is worth anything
pub worths-past : (pairs : PairsView) (likings : LikingsView) (plan : Plan) (i j : ℕ) → length pairs.moves ≤ j
    → pair_worths pairs likings plan i j ≡ None
worths-past pairs likings plan i j past =
    ap (worth_of plan (pair_liking pairs likings i j) i j) (idle pairs j i (get_or_past pairs.moves j None past)).1

worths-behind : (pairs : PairsView) (likings : LikingsView) (plan : Plan) (i j : ℕ) → length pairs.moves ≤ i
    → pair_worths pairs likings plan i j ≡ None
worths-behind pairs likings plan i j past =
    ap (worth_of plan (pair_liking pairs likings i j) i j) (idle pairs i j (get_or_past pairs.moves i None past)).0

-- so the rows of all slots list what all pairs are worth
pub listed-all : (pairs : PairsView) (likings : LikingsView) (plan : Plan) (lists : ListsView)
    → AreListed (pair_worths pairs likings plan) (length pairs.moves) (length pairs.moves) lists → (i j : ℕ)
    → listed lists i j ≡ pair_worths pairs likings plan i j
listed-all pairs likings plan lists are i j = ⊎_elim
    (λ (lt : i < length pairs.moves). are.each i j lt)
    (λ (past : length pairs.moves ≤ i).
    ap (λ (row : List Pair). value_of row j) (get_or_past lists.rows i [] (omega (arith, past, are.count)))
    ∙ sym (worths-behind pairs likings plan i j past))
    (cases_lt i (length pairs.moves))
