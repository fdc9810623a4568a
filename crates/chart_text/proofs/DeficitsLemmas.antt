-- The greatest values of columns, and the lines of places, as they are written piece by piece.
use Rattle.std.proofs.Common.{◌≡◌, ℕ, zero, suc, ◌+◌, ◌*◌, ◌<◌, ◌≤◌, List, [], ◌∷◌, ◌++◌, map, length, take, slice_get, Some, None, fold}
use Rattle.std.proofs.Common.{All, ℤ, refl, sym, ap, ◌∙◌, append_assoc, codes, arith}
use Rattle.std.specs.Int.{int_max}
use Rattle.std.specs.List.{range_with_len, flat_map, enumerate_from}
use Rattle.std.proofs.lemmas.List.{take_all}
use Rattle.std.proofs.lemmas.List.Elements.{All-head, All-tail}
use Rattle.std.proofs.lemmas.List.FromFn.{map-range_with_len_more}
use Rattle.std.proofs.lemmas.List.Sums.{fold-append}
use Rattle.gtfs_tables.specs.Times.{minute_digits}
use Rattle.chart_text.specs.Columns.{minutes_of}
use Rattle.chart_text.specs.Deficits.{greatest_in, mark_of, place_line, chart_of}

-- the greatest value of d in the first n minutes of a column
abbrev pub greatest_so_far : (ℕ → ℤ) → ℕ → ℕ → ℤ
greatest_so_far d column n = fold int_max (d (10 * column)) (map d (range_with_len (10 * column) n))

-- one minute more
pub greatest_so_far-more : (d : ℕ → ℤ) (column n minute : ℕ) → 10 * column + n ≡ minute
    → int_max (greatest_so_far d column n) (d minute) ≡ greatest_so_far d column (n + 1)
greatest_so_far-more d column n minute at =
    sym (ap (fold int_max (d (10 * column))) (map-range_with_len_more d (10 * column) n minute at)
    ∙ fold-append int_max (d (10 * column)) (map d (range_with_len (10 * column) n)) (d minute ∷ []))

-- and all ten
pub greatest_in-all : (d : ℕ → ℤ) (column n : ℕ) → n ≡ 10 → greatest_so_far d column n ≡ greatest_in d column
unfolding greatest_in minutes_of
greatest_in-all d column n all = ap (greatest_so_far d column) all

-- functions that agree at the minutes of a range have the same values there
values-agree : (d e : ℕ → ℤ) (first n : ℕ) → ((t : ℕ) → t < first + n → d t ≡ e t)
    → map d (range_with_len first n) ≡ map e (range_with_len first n)
values-agree d e first zero same = refl
values-agree d e first (suc n) same = λ i. same first (omega arith) i ∷ values-agree d e (first + 1) n (λ t h. same t (omega arith)) i

-- and the same greatest value in a column of the day
greatest_in-agree : (d e : ℕ → ℤ) (column n : ℕ) → n ≡ 10 → column ≤ 630 → ((t : ℕ) → t ≤ 8191 → d t ≡ e t)
    → greatest_in d column ≡ greatest_in e column
greatest_in-agree d e column n ten h same =
    sym (greatest_in-all d column n ten)
    ∙ (λ i. fold int_max (same (10 * column) (omega arith) i) (values-agree d e (10 * column) n (λ t k. same t (omega arith)) i))
    ∙ greatest_in-all e column n ten

-- the marks of columns
abbrev pub marks_of : (ℕ → ℤ) → List ℕ → List ℕ
marks_of d columns = map (λ c. mark_of (greatest_in d c)) columns

pub marks_of-agree : (d e : ℕ → ℤ) (columns : List ℕ) → All (λ c. c ≤ 630) columns → ((t : ℕ) → t ≤ 8191 → d t ≡ e t)
    → marks_of d columns ≡ marks_of e columns
marks_of-agree d e [] in_day same = refl
marks_of-agree d e (c ∷ columns) in_day same =
    λ i. mark_of (greatest_in-agree d e c 10 refl (All-head (λ c. c ≤ 630) c columns in_day) same i)
    ∷ marks_of-agree d e columns (All-tail (λ c. c ≤ 630) c columns in_day) same i

-- the text after the line of one place, where e is the value that its steps give back
pub place-written : (before name : List ℕ) (columns : List ℕ) (d e : ℕ → ℤ) (marks next : List ℕ) → All (λ c. c ≤ 630) columns
    → ((t : ℕ) → t ≤ 8191 → e t ≡ d t)
    → marks ≡ before ++ marks_of e columns
    → next ≡ marks ++ 32 ∷ (name ++ 10 ∷ [])
    → next ≡ before ++ place_line columns name d
unfolding place_line
place-written before name columns d e marks next in_day same drawn written =
    written
    ∙ (λ i. (drawn ∙ ap (λ ms. before ++ ms) (marks_of-agree e d columns in_day same)) i ++ 32 ∷ (name ++ 10 ∷ []))
    ∙ simp append_assoc

-- functions that agree at the minutes of the day have the same lines
lines-agree : (columns : List ℕ) (from : ℕ) (names : List (List ℕ)) (d e : ℕ → ℕ → ℤ) → All (λ c. c ≤ 630) columns
    → ((k t : ℕ) → k < from + length names → t ≤ 8191 → d k t ≡ e k t)
    → flat_map (λ place. place_line columns place.1 (d place.0)) (enumerate_from from names) ≡ flat_map
    (λ place. place_line columns place.1 (e place.0)) (enumerate_from from names)
unfolding place_line
lines-agree columns from [] d e in_day same = refl
lines-agree columns from (x ∷ names) d e in_day same =
    λ i. (marks_of-agree (d from) (e from) columns in_day (λ t h. same from t (omega arith) h) i ++ codes " " ++ x ++ 10 ∷ [])
    ++ lines-agree columns (from + 1) names d e in_day (λ k t h g. same k t (omega arith) g) i

-- and the same chart
pub chart_of-agree : (columns : List ℕ) (names : List (List ℕ)) (d e : ℕ → ℕ → ℤ) → All (λ c. c ≤ 630) columns
    → ((k t : ℕ) → k < length names → t ≤ 8191 → d k t ≡ e k t) → chart_of columns names d ≡ chart_of columns names e
unfolding chart_of
chart_of-agree [] names d e in_day same = refl
chart_of-agree (c ∷ columns) names d e in_day same =
    ap (λ lines. codes "chart from " ++ minute_digits (10 * c) ++ 10 ∷ [] ++ lines)
    (lines-agree (c ∷ columns) 0 names d e in_day (λ k t h g. same k t (omega arith) g))

-- without columns there are no trips
pub no_columns : (columns : List ℕ) (names : List (List ℕ)) (d : ℕ → ℕ → ℤ) → slice_get columns 0 ≡ None
    → codes "no trips" ++ 10 ∷ [] ≡ chart_of columns names d
unfolding chart_of
no_columns [] names d e = refl
no_columns (c ∷ columns) names d e = cc

-- the whole chart, once the first line, `start`, and the lines of the places are written
pub chart-written : (columns : List ℕ) (names : List (List ℕ)) (d : ℕ → ℕ → ℤ) (first k : ℕ) (minute start text : List ℕ)
    → slice_get columns 0 ≡ Some first → length names ≤ k
    → minute ≡ minute_digits (10 * first)
    → start ≡ 99 ∷ 104 ∷ 97 ∷ 114 ∷ 116 ∷ 32 ∷ 102 ∷ 114 ∷ 111 ∷ 109 ∷ 32 ∷ (minute ++ 10 ∷ [])
    → text ≡ start ++ flat_map (λ place. place_line columns place.1 (d place.0)) (enumerate_from 0 (take k names))
    → text ≡ chart_of columns names d
unfolding chart_of
chart-written [] names d first k minute start text e all digits begins so_far = cc
chart-written (c ∷ columns) names d first k minute start text e all digits begins so_far =
    let same : first ≡ c = cc in
    so_far
    ∙ (λ i. (begins ∙ ap (λ m. 99 ∷ 104 ∷ 97 ∷ 114 ∷ 116 ∷ 32 ∷ 102 ∷ 114 ∷ 111 ∷ 109 ∷ 32 ∷ (m ++ 10 ∷ []))
    (digits ∙ ap (λ f. minute_digits (10 * f)) same)) i
    ++ flat_map (λ place. place_line (c ∷ columns) place.1 (d place.0)) (enumerate_from 0 (take_all k names all i)))
