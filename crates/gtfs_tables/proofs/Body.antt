-- The rows of a table, read one after another.
use Rattle.std.proofs.Common.{◌≡◌, ℕ, zero, suc, ◌+◌, ◌<◌, ◌≤◌, List, [], ◌∷◌, ◌++◌, length, map, Bool, true, false, cond, Option, Some}
use Rattle.std.proofs.Common.{None, Ok, Err, refl, sym, ap, arith, ◌∙◌, add-zero, get_or}
use Rattle.std.specs.List.{list_any, position_from}
use Rattle.std.proofs.lemmas.List.{append-nil, map-append, length-map}
use Rattle.std.proofs.Common.{append_assoc}
use Rattle.std.proofs.lemmas.List.Folds.{list_any-append}
use Rattle.std.proofs.lemmas.Bool.{le-ltb, lt-ltb, ltb-false, or_parts}
use Rattle.gtfs_tables.proofs.Fields.{length-padded}
use Rattle.gtfs_tables.specs.Rows.{padded}
use Rattle.gtfs_tables.specs.Table.{body_of, is_longer, table_from, unless_too_long, IsFaultOf}
use Rattle.gtfs_tables.specs.declared.table.TableFault.{TableFault}
use Rattle.gtfs_tables.specs.declared.table.TableFault.TheVariants.{Memory, NoHeader, RowTooLong}

-- some of the records were read, none of them too long, and these are their rows; the others are left
pub record IsReadSoFar (width : ℕ) (all rows left : List (List (List ℕ))) : Type 0 where
  pub done : List (List (List ℕ))
  pub split : all ≡ done ++ left
  pub padded_done : rows ≡ map (padded width) done
  pub fit : list_any (is_longer width) done ≡ false

-- no place is found in the front
position-past : {X : Type 0} (p : X → Bool) (n : ℕ) (front rest : List X) → list_any p front ≡ false
    → position_from p n (front ++ rest) ≡ position_from p (n + length front) rest
position-past p n [] rest none = rw add-zero refl
position-past p n (x ∷ front) rest none =
    let parts = or_parts (p x) (list_any p front) none in
    let next : n + 1 + length front ≡ n + suc (length front) = omega arith in
    rw parts.0 (position-past p (n + 1) front rest parts.1 ∙ ap (λ (k : ℕ). position_from p k rest) next)

-- one more row that is not too long
pub body-more : (width : ℕ) (all rows more left next : List (List (List ℕ))) (fields row : List (List ℕ)) → IsReadSoFar width all rows left
    → left ≡ fields ∷ next → length fields ≤ width → row ≡ padded width fields → more ≡ rows ++ row ∷ [] → IsReadSoFar width all more next
body-more width all rows more left next fields row read first fits is_padded pushed = record {
  done = read.done ++ fields ∷ [];
  split = read.split ∙ (ap (λ (t : List (List (List ℕ))). read.done ++ t) first ∙ sym (append_assoc read.done (fields ∷ []) next));
  padded_done = rw (pushed, read.padded_done, is_padded, map-append (padded width) read.done (fields ∷ [])) refl;
  fit = rw (list_any-append (is_longer width) read.done (fields ∷ []), read.fit, le-ltb width (length fields) fits) refl;
}

-- the end
pub body-end : (width : ℕ) (all rows left : List (List (List ℕ))) → IsReadSoFar width all rows left → left ≡ []
    → body_of width all ≡ Ok rows
body-end width all rows left read end =
    let whole : all ≡ read.done = read.split ∙ (ap (λ (t : List (List (List ℕ))). read.done ++ t) end ∙ append-nil read.done) in
    let none : position_from (is_longer width) 1 all ≡ None =
    rw (read.split, end) (position-past (is_longer width) 1 read.done [] read.fit) in
    rw (none, whole, read.padded_done) refl

-- a row that is too long
pub body-long : (width : ℕ) (all rows left next : List (List (List ℕ))) (fields : List (List ℕ)) → IsReadSoFar width all rows left
    → left ≡ fields ∷ next → width < length fields → body_of width all ≡ Err (RowTooLong (length rows + 1))
body-long width all rows left next fields read first long =
    let count : length rows ≡ length read.done = ap length read.padded_done ∙ length-map read.done (padded width) in
    let number : 1 + length read.done ≡ length rows + 1 = omega arith in
    let at : position_from (is_longer width) 1 all ≡ Some (1 + length read.done) =
    rw (read.split, first) (position-past (is_longer width) 1 read.done (fields ∷ next) read.fit
    ∙ rw (lt-ltb width (length fields) long) refl) in
    rw (at, number) refl

-- a search from a front that finds nothing
no-place : (b : Bool) (n : ℕ) (o : Option ℕ) → cond b (Some n) o ≡ None → (b ≡ false) × (o ≡ None)
no-place true n o none = cc none
no-place false n o none = (refl, none)

-- rows that are not too long have the width once they are padded
widths : (width n : ℕ) (all : List (List (List ℕ))) → position_from (is_longer width) n all ≡ None
    → (i : ℕ) → i < length (map (padded width) all) → length (get_or (map (padded width) all) i []) ≡ width
widths width n [] none i within = absurd (omega arith)
widths width n (fields ∷ all) none zero within =
    length-padded width fields (ltb-false width (length fields) (no-place (is_longer width fields) n _ none).0)
widths width n (fields ∷ all) none (suc i) within =
    widths width (n + 1) all (no-place (is_longer width fields) n _ none).1 i (omega arith)

-- what the rows of a body are
pub body-rows : (width : ℕ) (all rows : List (List (List ℕ))) → body_of width all ≡ Ok rows
    → ((i : ℕ) → i < length rows → length (get_or rows i []) ≡ width) × (length rows ≡ length all)
body-rows width all rows e =
    let parts = by (position_from (is_longer width) 1 all) e in
    (rw (← parts.1) (widths width 1 all parts.0), rw (← parts.1) (length-map all (padded width)))
  where
    by : (o : Option ℕ) → unless_too_long o (map (padded width) all) ≡ Ok rows → (o ≡ None) × (map (padded width) all ≡ rows)
    by None e = (refl, cc e)
    by (Some r) e = cc e

-- a fault of the rows is one of the table
pub table-fault : (all : List (List (List ℕ))) (header : List (List ℕ)) (left : List (List (List ℕ))) (fault : TableFault)
    → all ≡ header ∷ left → IsFaultOf (body_of (length header) left) fault → IsFaultOf (table_from all) fault
table-fault all header left NoHeader split due = rw (split, due) refl
table-fault all header left (RowTooLong r) split due = rw (split, due) refl
table-fault all header left Memory split due = tt
