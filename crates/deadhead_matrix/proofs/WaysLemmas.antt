-- Rows of minutes tell the entries that were entered.
use Rattle.std.proofs.Common.{◌≡◌, ◌≢◌, ℕ, ◌<◌, ◌≤◌, ◌==◌, ◌&&◌, Bool, true, false, not, List, [], ◌∷◌, ◌++◌, length, set, get_or, take}
use Rattle.std.proofs.Common.{drop, replicate, refl, sym, ap, subst, ◌∙◌, ⊎_elim, ◌⊎◌, inl, inr, arith}
use Rattle.std.specs.List.{Contains}
use Rattle.std.proofs.lemmas.Bool.{cases_eq, cases_lt, false≢true, eq-eqb, eqb-true, ne_eqb}
use Rattle.std.proofs.Math.Seq.{take-length, drop-length}
use Rattle.std.proofs.lemmas.List.{append-nil, length-set, length-replicate, get_or-replicate, get_or_past, get_or-set_same}
use Rattle.std.proofs.lemmas.List.{get_or-set_other}
use Rattle.std.proofs.lemmas.List.Elements.{Contains-append_left, Contains-push, Contains-push_cases}
use Rattle.std.proofs.lemmas.List.Folds.{Any-from_list_any, list_any_at}
use Rattle.deadhead_matrix.specs.declared.entry.Entry.{Entry}
use Rattle.deadhead_matrix.specs.Deadheads.{has_entry}
use Rattle.deadhead_matrix.specs.Rows.{way, AreRows, AreTold}

-- rows of nothing but zeros
pub AreRows-zeros : (n : ℕ) → AreRows n (replicate n (replicate n 0))
AreRows-zeros n = record {
  rows = length-replicate n (replicate n 0);
  columns = λ a within. ap length (get_or-replicate n a (replicate n 0) [] within) ∙ length-replicate n 0;
}

zero-at : (n b : ℕ) → ◌≡◌ {A = ℕ} (get_or (replicate n 0) b 0) 0
zero-at n b = ⊎_elim
    (λ (h : b < n). get_or-replicate n b 0 0 h)
    (λ (h : n ≤ b). get_or_past (replicate n 0) b 0 (omega (arith, length-replicate {A = ℕ} n 0)))
    (cases_lt b n)

pub way-zeros : (n m a b : ℕ) → way (replicate n (replicate m 0)) a b ≡ 0
way-zeros n m a b = ⊎_elim
    (λ (h : a < n). ap (λ row. get_or row b 0) (get_or-replicate n a (replicate m 0) [] h) ∙ zero-at m b)
    (λ (h : n ≤ a). ap (λ row. get_or row b 0)
    (get_or_past (replicate n (replicate m 0)) a [] (omega (arith, length-replicate {A = List ℕ} n (replicate m 0)))))
    (cases_lt a n)

-- an entry leads from one place to another where it is one of these
both : (a b c d : ℕ) → ((a == c) && (b == d)) ≡ true → (a ≡ c) × (b ≡ d)
both a b c d e = by (a == c) (b == d) refl refl e
  where
    by : (x y : Bool) → (a == c) ≡ x → (b == d) ≡ y → (x && y) ≡ true → (a ≡ c) × (b ≡ d)
    by true true first second e = (eqb-true a c first, eqb-true b d second)
    by true false first second e = absurd (false≢true e)
    by false y first second e = absurd (false≢true e)

both-true : (a b c d : ℕ) → a ≡ c → b ≡ d → ((a == c) && (b == d)) ≡ true
both-true a b c d first second = (λ i. eq-eqb a c first i && eq-eqb b d second i)

pub has_entry-from : (entries : List Entry) (a b : ℕ) → has_entry entries a b ≡ true
    → (e : Entry) × Contains entries e × (e.from ≡ a) × (e.to ≡ b)
has_entry-from entries a b has =
    let some = Any-from_list_any (λ (e : Entry). (e.from == a) && (e.to == b)) entries has in
    let ends = both some.1.from some.1.to a b some.4 in
    (some.1, (some.0, some.2, some.3), ends.0, ends.1)

pub has_entry-of : (entries : List Entry) (e : Entry) → Contains entries e → has_entry entries e.from e.to ≡ true
has_entry-of entries e within = list_any_at (λ (x : Entry). (x.from == e.from) && (x.to == e.to)) entries within.0 e within.1
    (ap (λ (x : Entry). (x.from == e.from) && (x.to == e.to)) within.2 ∙ both-true e.from e.to e.from e.to refl refl)

-- the rows tell whether an entry leads from one place to another
pub has_entry-told : (entries : List Entry) (ways : List (List ℕ)) (a b : ℕ) → AreTold entries ways
    → not (way ways a b == 0) ≡ has_entry entries a b
has_entry-told entries ways a b are = by (has_entry entries a b) refl
  where
    by : (has : Bool) → has_entry entries a b ≡ has → not (way ways a b == 0) ≡ has
    by true has =
        let some = has_entry-from entries a b has in
        let leads : way ways a b ≢ 0 =
        (λ zero. are.told.lasting some.0 some.1 (sym (are.told.told some.0 some.1) ∙ (λ i. way ways (some.2 i) (some.3 i)) ∙ zero)) in
        ap not (ne_eqb (way ways a b) 0 leads)
    by false has = ⊎_elim
        (λ (zero : way ways a b ≡ 0). ap not (eq-eqb (way ways a b) 0 zero))
        (λ (leads : way ways a b ≢ 0). absurd
        (false≢true (sym has ∙ has_entry-of entries (record { from = a; to = b; minutes = way ways a b }) (are.told.entry a b leads))))
        (cases_eq (way ways a b) 0)

module _ (entries : List Entry) (ways : List (List ℕ)) (e : Entry) (are : AreTold entries ways) (from_in : e.from < 512)
    (to_in : e.to < 512) where
  -- the rows with the entry
  abbrev pub with_way : List (List ℕ)
  with_way = set ways e.from (set (get_or ways e.from []) e.to e.minutes)

  row_in : e.from < length ways
  row_in = omega (arith, are.rows.rows, from_in)

  row_same : get_or with_way e.from [] ≡ set (get_or ways e.from []) e.to e.minutes
  row_same = get_or-set_same ways e.from (set (get_or ways e.from []) e.to e.minutes) [] row_in

  row_other : (a : ℕ) → a ≢ e.from → get_or with_way a [] ≡ get_or ways a []
  row_other a differs = get_or-set_other ways e.from a (set (get_or ways e.from []) e.to e.minutes) [] differs

  way_same : way with_way e.from e.to ≡ e.minutes
  way_same = ap (λ row. get_or row e.to 0) row_same
      ∙ get_or-set_same (get_or ways e.from []) e.to e.minutes 0 (omega (arith, are.rows.columns e.from from_in, to_in))

  way_other : (a b : ℕ) → ((a ≡ e.from) × (b ≡ e.to) → ⊥) → way with_way a b ≡ way ways a b
  way_other a b differ = by (cases_eq a e.from)
    where
      by : (a ≡ e.from) ⊎ (a ≢ e.from) → way with_way a b ≡ way ways a b
      by (inr other) = ap (λ row. get_or row b 0) (row_other a other)
      by (inl same) =
          ap (λ row. get_or row b 0) (ap (λ x. get_or with_way x []) same ∙ row_same)
          ∙ get_or-set_other (get_or ways e.from []) e.to b e.minutes 0 (λ at. differ (same, at))
          ∙ ap (λ x. way ways x b) (sym same)

  cases_way : (a b : ℕ) → ((a ≡ e.from) × (b ≡ e.to)) ⊎ ((a ≡ e.from) × (b ≡ e.to) → ⊥)
  cases_way a b = ⊎_elim
      (λ (first : a ≡ e.from). ⊎_elim
      (λ (second : b ≡ e.to). inl (first, second))
      (λ (second : b ≢ e.to). inr (λ (are : (a ≡ e.from) × (b ≡ e.to)). second are.1))
      (cases_eq b e.to))
      (λ (first : a ≢ e.from). inr (λ (are : (a ≡ e.from) × (b ≡ e.to)). first are.0))
      (cases_eq a e.from)

  pub AreTold-push : 1 ≤ e.minutes → e.minutes ≤ 1440 → has_entry entries e.from e.to ≡ false → AreTold (entries ++ e ∷ []) with_way
  AreTold-push lasting short new = record {
    rows = record {
      rows = length-set ways e.from (set (get_or ways e.from []) e.to e.minutes) ∙ are.rows.rows;
      columns = λ a within. columns a within (cases_eq a e.from);
    };
    short = λ a b. short_at a b (cases_way a b);
    told = record {
      from = λ x within. ⊎_elim (λ (old : Contains entries x). are.told.from x old)
          (λ (is : e ≡ x). subst (λ (y : Entry). y.from < 512) is from_in) (Contains-push_cases entries e x within);
      to = λ x within. ⊎_elim (λ (old : Contains entries x). are.told.to x old)
          (λ (is : e ≡ x). subst (λ (y : Entry). y.to < 512) is to_in) (Contains-push_cases entries e x within);
      told = λ x within. ⊎_elim (λ (old : Contains entries x). way_other x.from x.to (other x old) ∙ are.told.told x old)
          (λ (is : e ≡ x). subst (λ (y : Entry). way with_way y.from y.to ≡ y.minutes) is way_same)
          (Contains-push_cases entries e x within);
      lasting = λ x within. ⊎_elim (λ (old : Contains entries x). are.told.lasting x old)
          (λ (is : e ≡ x). subst (λ (y : Entry). y.minutes ≢ 0) is (λ (zero : e.minutes ≡ 0). omega arith))
          (Contains-push_cases entries e x within);
      entry = λ a b leads. entry_at a b leads (cases_way a b);
    };
  }
    where
      columns : (a : ℕ) → a < 512 → (a ≡ e.from) ⊎ (a ≢ e.from) → length (get_or with_way a []) ≡ 512
      columns a within (inl same) = ap (λ x. length (get_or with_way x [])) same ∙ ap length row_same
          ∙ length-set (get_or ways e.from []) e.to e.minutes ∙ are.rows.columns e.from from_in
      columns a within (inr differs) = ap length (row_other a differs) ∙ are.rows.columns a within

      short_at : (a b : ℕ) → ((a ≡ e.from) × (b ≡ e.to)) ⊎ ((a ≡ e.from) × (b ≡ e.to) → ⊥) → way with_way a b ≤ 1440
      short_at a b (inl same) = let is : way with_way a b ≡ e.minutes = (λ i. way with_way (same.0 i) (same.1 i)) ∙ way_same in omega arith
      short_at a b (inr differ) = let is = way_other a b differ in let old = are.short a b in omega arith

      other : (x : Entry) → Contains entries x → (x.from ≡ e.from) × (x.to ≡ e.to) → ⊥
      other x old same = false≢true (sym new ∙ (λ i. has_entry entries (sym same.0 i) (sym same.1 i)) ∙ has_entry-of entries x old)

      entry_at : (a b : ℕ) → way with_way a b ≢ 0 → ((a ≡ e.from) × (b ≡ e.to)) ⊎ ((a ≡ e.from) × (b ≡ e.to) → ⊥)
          → Contains (entries ++ e ∷ []) (record { from = a; to = b; minutes = way with_way a b })
      entry_at a b leads (inl same) =
          let minutes : way with_way a b ≡ e.minutes = (λ i. way with_way (same.0 i) (same.1 i)) ∙ way_same in
          let is : ◌≡◌ {A = Entry} e (record { from = a; to = b; minutes = way with_way a b }) =
          (λ i. record { from = sym same.0 i; to = sym same.1 i; minutes = sym minutes i }) in
          subst (λ (x : Entry). Contains (entries ++ e ∷ []) x) is (Contains-push entries e)
      entry_at a b leads (inr differ) =
          let is = way_other a b differ in
          let old = are.told.entry a b (λ zero. leads (is ∙ zero)) in
          subst (λ m. Contains (entries ++ e ∷ []) (record { from = a; to = b; minutes = m })) (sym is)
          (Contains-append_left entries (e ∷ []) _ old)

-- rows that were lent as a slice and given back
pub given-back : (n : ℕ) (new old : List (List ℕ)) → length new ≡ length old → length old ≡ n → take n (new ++ drop (length new) old) ≡ new
given-back n new old same len =
    ap (λ m. take n (new ++ drop m old)) same
    ∙ ap (λ rest. take n (new ++ rest)) (drop-length old)
    ∙ ap (take n) (append-nil new)
    ∙ ap (λ m. take m new) (sym (same ∙ len))
    ∙ take-length new
