-- What a writer of records writes, and that it reads back.
use Rattle.std.proofs.Common.{◌≡◌, ℕ, zero, suc, ◌+◌, ◌<◌, ◌≤◌, ◌==◌, inl, inr, List, [], ◌∷◌, ◌++◌, length, get_or, Bool, true, false}
use Rattle.std.proofs.Common.{cond, All, refl, sym, ap, subst, arith, append_assoc, length-append}
use Rattle.std.specs.Str.{IsUtf8, IsCharBoundary}
use Rattle.std.proofs.lemmas.Bool.{cases_Bool, eqb-true}
use Rattle.std.proofs.lemmas.Str.{IsUtf8-append, IsUtf8-nil, IsUtf8-take, IsUtf8-drop, IsUtf8-from_ascii, IsCharBoundary-after_ascii}
use Rattle.std.proofs.lemmas.Str.Ascii.{IsAscii-cons}
use Rattle.std.proofs.Math.Seq.{get_or-append_seam, take-append_seam, drop-append_seam}
use Rattle.csv.specs.Machine.{next_record}
use Rattle.csv.specs.Reading.{default_config, records_from}
use Rattle.csv.specs.Writing.{default_writer, escaped, field_text, fields_text, is_blank, needs_quotes, read_back, row_text}
use Rattle.csv.specs.declared.parser.State.TheVariants as st
use Rattle.csv.proofs.RoundTrip.{read-write}
use Rattle.gtfs_tables.specs.Records.{records}
use Rattle.gtfs_tables.specs.Writing.{record_text, record_writer, records_text, ReadBack}

escaped-same : (field : List ℕ) → escaped record_writer field ≡ escaped default_writer field
unfolding escaped
escaped-same [] = refl
escaped-same (b ∷ rest) = ap (λ (more : List ℕ). cond (b == 34) (34 ∷ b ∷ more) (b ∷ more)) (escaped-same rest)

field_text-same : (field : List ℕ) → field_text record_writer field ≡ field_text default_writer field
field_text-same field = ap (λ (inner : List ℕ). cond (needs_quotes default_writer field) (34 ∷ (inner ++ 34 ∷ [])) field)
    (escaped-same field)

fields_text-same : (fields : List (List ℕ)) → fields_text record_writer fields ≡ fields_text default_writer fields
unfolding fields_text
fields_text-same [] = refl
fields_text-same (field ∷ rest) = rw (field_text-same field, fields_text-same rest) refl

is_blank-same : (fields : List (List ℕ)) → is_blank record_writer fields ≡ is_blank default_writer fields
unfolding is_blank
is_blank-same [] = refl
is_blank-same (field ∷ []) = ap (λ (text : List ℕ). length text == 0) (field_text-same field)
is_blank-same (field ∷ next ∷ rest) = refl

-- a record is written as the default writer writes it
record_text-same : (fields : List (List ℕ)) → record_text fields ≡ row_text default_writer fields
record_text-same [] = rw (is_blank-same []) refl
record_text-same (field ∷ rest) = rw (is_blank-same (field ∷ rest), field_text-same field, fields_text-same rest) refl

-- a record takes a byte at least
some-bytes : (fields : List (List ℕ)) → 1 ≤ length (record_text fields)
some-bytes [] = simp length-append (omega arith)
some-bytes (field ∷ rest) = simp length-append (omega arith)

-- enough turns read the records that were written, and no others
pub reads-back : (n : ℕ) (rows : List (List (List ℕ))) → All (λ (fields : List (List ℕ)). 0 < length fields) rows
    → length (records_text rows) < n
    → records_from default_config n st.StartRecord (records_text rows) ≡ rows
unfolding records_from next_record
reads-back zero rows filled enough = absurd (omega arith)
reads-back (suc n) [] filled enough = refl
reads-back (suc n) (fields ∷ rows) filled enough =
    let long : length (records_text rows) < n = omega (arith, some-bytes fields, length-append (record_text fields) (records_text rows)) in
    rw (record_text-same fields, read-write fields (records_text rows))
    (rw (has-field fields (filled 0 [] (omega arith)))
    (ap (λ (more : List (List (List ℕ))). fields ∷ more) (reads-back n rows (λ k d within. filled (suc k) d (omega arith)) long)))
  where
    has-field : (fields : List (List ℕ)) → 0 < length fields → read_back fields ≡ fields
    has-field [] filled = absurd (omega arith)
    has-field (f ∷ rest) filled = refl

pub records-back : (rows : List (List (List ℕ))) → ReadBack rows → records (records_text rows) ≡ rows
records-back rows back = rw back.unmarked (reads-back (length (records_text rows) + 1) rows back.filled (omega arith))

-- a byte of ASCII is a text
byte-text : (b : ℕ) → b < 128 → IsUtf8 (b ∷ [])
byte-text b small = IsUtf8-from_ascii (b ∷ []) (IsAscii-cons b [] small (λ i. omega arith))

-- a byte of ASCII in front of a text
byte-before : (b : ℕ) (text : List ℕ) → b < 128 → IsUtf8 text → IsUtf8 (b ∷ text)
byte-before b text small is = IsUtf8-append (b ∷ []) text (byte-text b small) is

-- what stands before a quote of a text, and what stands behind it
before-quote : (front rest : List ℕ) → IsUtf8 (front ++ 34 ∷ rest) → IsUtf8 front × IsUtf8 rest
before-quote front rest is =
    let within : length front ≤ length (front ++ 34 ∷ rest) = rw length-append (omega arith) in
    let quote : get_or (front ++ 34 ∷ rest) (length front) 0 ≡ 34 = get_or-append_seam front 34 rest 0 in
    let boundary : IsCharBoundary (front ++ 34 ∷ rest) (length front) = (within, λ _ high. absurd (omega (arith, quote, high))) in
    let behind : IsUtf8 (34 ∷ rest) =
    subst IsUtf8 (drop-append_seam front (34 ∷ rest)) (IsUtf8-drop (front ++ 34 ∷ rest) (length front) is boundary) in (
      subst IsUtf8 (take-append_seam front (34 ∷ rest)) (IsUtf8-take (front ++ 34 ∷ rest) (length front) is boundary),
      IsUtf8-drop (34 ∷ rest) 1 behind (IsCharBoundary-after_ascii (34 ∷ rest) 0 behind (omega arith) (omega arith)),
    )

-- a text with its quotes doubled, behind what stands before it
escaped-text : (front field : List ℕ) → IsUtf8 (front ++ field) → IsUtf8 (front ++ escaped default_writer field)
unfolding escaped
escaped-text front [] is = is
escaped-text front (b ∷ rest) is = elim (cases_Bool (b == 34)) [
  | inl quote ↦
      let parts = before-quote front rest (subst (λ q. IsUtf8 (front ++ q ∷ rest)) (eqb-true b 34 quote) is) in
      rw quote (subst (λ q. IsUtf8 (front ++ 34 ∷ q ∷ escaped default_writer rest)) (sym (eqb-true b 34 quote))
      (IsUtf8-append front (34 ∷ 34 ∷ escaped default_writer rest) parts.0
      (byte-before 34 _ (omega arith) (byte-before 34 _ (omega arith) (escaped-text [] rest parts.1)))))
  | inr other ↦
      rw other (subst IsUtf8 (append_assoc front (b ∷ []) (escaped default_writer rest))
      (escaped-text (front ++ b ∷ []) rest (subst IsUtf8 (sym (append_assoc front (b ∷ []) rest)) is)))
]

-- a field of text is written as text
field-text : (field : List ℕ) → IsUtf8 field → IsUtf8 (field_text default_writer field)
field-text field is = elim (cases_Bool (needs_quotes default_writer field)) [
  | inl needs ↦ rw needs (byte-before 34 _ (omega arith)
      (IsUtf8-append (escaped default_writer field) (34 ∷ []) (escaped-text [] field is) (byte-text 34 (omega arith))))
  | inr plain ↦ rw plain is
]

-- and so are fields with what stands between them
fields-text : (fields : List (List ℕ)) → All IsUtf8 fields → IsUtf8 (fields_text default_writer fields)
unfolding fields_text
fields-text [] are = IsUtf8-nil
fields-text (field ∷ rest) are =
    byte-before 44 _ (omega arith)
    (IsUtf8-append (field_text default_writer field) (fields_text default_writer rest) (field-text field (are 0 [] (omega arith)))
    (fields-text rest (λ k d within. are (suc k) d (omega arith))))

-- the end of a record is text
end-text : (blank : Bool) → IsUtf8 (cond blank (34 ∷ 34 ∷ []) [] ++ 10 ∷ [])
end-text true = byte-before 34 _ (omega arith) (byte-before 34 _ (omega arith) (byte-text 10 (omega arith)))
end-text false = byte-text 10 (omega arith)

pub record-text : (fields : List (List ℕ)) → All IsUtf8 fields → IsUtf8 (record_text fields)
record-text fields are = subst IsUtf8 (sym (record_text-same fields)) (by fields are)
  where
    by : (fields : List (List ℕ)) → All IsUtf8 fields → IsUtf8 (row_text default_writer fields)
    by [] are = end-text (is_blank default_writer [])
    by (field ∷ rest) are =
        IsUtf8-append (field_text default_writer field ++ fields_text default_writer rest) _
        (IsUtf8-append (field_text default_writer field) (fields_text default_writer rest) (field-text field (are 0 [] (omega arith)))
        (fields-text rest (λ k d within. are (suc k) d (omega arith)))) (end-text (is_blank default_writer (field ∷ rest)))
