-- Records of texts, as they are written one after the other.
use Rattle.std.proofs.Common.{◌≡◌, ℕ, ◌+◌, ◌-◌, ◌<◌, inl, inr, List, [], ◌++◌, length, get_or, set, map, All, Result, Ok, Err}
use Rattle.std.proofs.Common.{refl, sym, ap, subst, ◌∙◌, arith}
use Rattle.std.specs.Prelude.{OnOk}
use Rattle.std.specs.Borrow.{Bor}
use Rattle.std.specs.Str.{IsUtf8}
use Rattle.std.proofs.lemmas.Bool.{cases_lt, lt-ltb}
use Rattle.std.proofs.lemmas.List.{get_or_past, map-set}
use Rattle.std.proofs.lemmas.Str.{IsUtf8-nil}
use Rattle.gtfs_tables.specs.Writing.{record_text}
use Rattle.block_writer.specs.Fields.{with_field}

-- a field of a record of texts is a text, also past the last
pub field-text : (row : List (List ℕ)) (place : ℕ) → All IsUtf8 row → IsUtf8 (get_or row place [])
field-text row place are = elim (cases_lt place (length row)) [
  | inl within ↦ are place [] within
  | inr past ↦ rw (get_or_past row place [] past) IsUtf8-nil
]

-- the fields that are seen, with another in one place
pub seen-set : (fields : List (Bor (List ℕ))) (row : List (List ℕ)) (place : ℕ) (field : Bor (List ℕ))
    → map (λ field. field.now) fields ≡ row
    → map (λ field. field.now) (set fields place field) ≡ set row place field.now
seen-set fields row place field seen = map-set (λ field. field.now) fields place field
    ∙ ap (λ (fields : List (List ℕ)). set fields place field.now) seen

-- a record with another field in a column that it has, and in a new one
pub with-set : (row : List (List ℕ)) (place : ℕ) (field : List ℕ) → place < length row → set row place field ≡ with_field row place field
with-set row place field within = rw (lt-ltb place (length row) within) refl

-- the fields of a table of texts
pub row-text : (rows : List (List (List ℕ))) (row : List (List ℕ)) (n : ℕ) → All (All IsUtf8) rows → n < length rows
    → row ≡ get_or rows (n + 1 - 1) [] → All IsUtf8 row
row-text rows row n are within is = subst (All IsUtf8) (sym is) (are (n + 1 - 1) [] (omega arith))

-- a record is written as it is seen
pub written-as : {E : Type 0} (result : Result (Unit {0}) E) (before after : List ℕ) (fields wanted : List (List ℕ)) → fields ≡ wanted
    → OnOk result (after ≡ before ++ record_text fields) → OnOk result (after ≡ before ++ record_text wanted)
written-as (Ok x) before after fields wanted same written = written ∙ ap (λ fields. before ++ record_text fields) same
written-as (Err e) before after fields wanted same written = tt
