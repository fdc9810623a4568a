-- The canonical lines of edits, as a journal, read back as the same edits.
use Rattle.std.proofs.Common.{◌≡◌, ℕ, ◌-◌, ◌<◌, cond, List, [], ◌∷◌, ◌++◌, length, map, take, All, refl, sym, ap, ◌∙◌, arith}
use Rattle.std.proofs.lemmas.List.{append_assoc, length-append, take-append-le, take_all}
use Rattle.std.proofs.lemmas.List.Elements.{All-cons, All-head, All-nil, All-tail}
use Rattle.csv.specs.Reading.{strip_bom}
use Rattle.csv.specs.Writing.{fields_text, is_blank, row_body}
use Rattle.gtfs_tables.specs.Records.{records}
use Rattle.gtfs_tables.specs.Writing.{record_text, record_writer, records_text}
use Rattle.gtfs_tables.proofs.Written.{records-back}
use Rattle.edit_script.specs.declared.edit.Edit.{Edit}
use Rattle.edit_script.specs.declared.edit.Edit.TheVariants.{Shift, Cancel, Restore, Extra, Undo, Redo, Show}
use Rattle.edit_script.specs.declared.edit.Line.TheVariants as line
use Rattle.edit_script.specs.Forms.{line_by, line_of}
use Rattle.edit_script.specs.Lines.{fields_of}
use Rattle.edit_script.specs.Script.{all_but_last}
use Rattle.edit_script.specs.Laws.{EditReadsBack}
use Rattle.journal_commands.specs.Journal.{canonical_line, journal_text, with_feed}
use Rattle.journal_commands.specs.Keep.{IsWritable}

-- a record without its line end
abbrev front_of : List (List ℕ) → List ℕ
front_of fields = row_body record_writer fields ++ cond (is_blank record_writer fields) (34 ∷ 34 ∷ []) []

record-ends : (fields : List (List ℕ)) → record_text fields ≡ front_of fields ++ 10 ∷ []
record-ends fields = sym (append_assoc (row_body record_writer fields) (cond (is_blank record_writer fields) (34 ∷ 34 ∷ []) []) (10 ∷ []))

front-of : (front : List ℕ) → all_but_last (front ++ 10 ∷ []) ≡ front
front-of front =
    let long = length-append front (10 ∷ []) in
    let count : length (front ++ 10 ∷ []) - 1 ≡ length front = omega (arith, long) in
    ap (λ n. take n (front ++ 10 ∷ [])) count ∙ take-append-le (length front) front (10 ∷ []) (omega arith)
    ∙ take_all (length front) front (omega arith)

-- a canonical line with its line feed is the text of a record
pub canonical-fed : (edit : Edit) → with_feed (canonical_line edit) ≡ record_text (fields_of edit)
canonical-fed edit = ap (λ text. all_but_last text ++ 10 ∷ []) (record-ends (fields_of edit))
    ∙ ap (λ front. front ++ 10 ∷ []) (front-of (front_of (fields_of edit))) ∙ sym (record-ends (fields_of edit))

pub line-canonical : (line : List ℕ) (edit : Edit) → line ++ 10 ∷ [] ≡ record_text (fields_of edit) → line ≡ canonical_line edit
line-canonical line edit is = sym (front-of line) ∙ ap all_but_last is

text-canonical : (edits : List Edit) → journal_text (map canonical_line edits) ≡ records_text (map fields_of edits)
text-canonical [] = refl
text-canonical (edit ∷ edits) = λ i. canonical-fed edit i ++ text-canonical edits i

-- no canonical line begins with a byte-order mark: each begins with its word
unmarked-first : (edit : Edit) (rest : List ℕ) → strip_bom (record_text (fields_of edit) ++ rest) ≡ record_text (fields_of edit) ++ rest
unfolding strip_bom fields_text is_blank
unmarked-first (Shift trip by) rest = refl
unmarked-first (Cancel trip) rest = refl
unmarked-first (Restore trip) rest = refl
unmarked-first (Extra trip from to departs arrives) rest = refl
unmarked-first Undo rest = refl
unmarked-first Redo rest = refl
unmarked-first Show rest = refl

unmarked-none : strip_bom [] ≡ []
unfolding strip_bom
unmarked-none = refl

unmarked-all : (edits : List Edit) → strip_bom (records_text (map fields_of edits)) ≡ records_text (map fields_of edits)
unmarked-all [] = unmarked-none
unmarked-all (edit ∷ edits) = unmarked-first edit (records_text (map fields_of edits))

some-fields : (edit : Edit) → 0 < length (fields_of edit)
some-fields (Shift trip by) = omega arith
some-fields (Cancel trip) = omega arith
some-fields (Restore trip) = omega arith
some-fields (Extra trip from to departs arrives) = omega arith
some-fields Undo = omega arith
some-fields Redo = omega arith
some-fields Show = omega arith

filled-all : (edits : List Edit) → All (λ (fields : List (List ℕ)). 0 < length fields) (map fields_of edits)
filled-all [] = All-nil (λ (fields : List (List ℕ)). 0 < length fields)
filled-all (edit ∷ edits) = All-cons (λ (fields : List (List ℕ)). 0 < length fields) (fields_of edit) (map fields_of edits)
    (some-fields edit) (filled-all edits)

-- the records of canonical lines are those of their edits
pub records-canonical : (edits : List Edit) → records (journal_text (map canonical_line edits)) ≡ map fields_of edits
records-canonical edits = ap records (text-canonical edits)
    ∙ records-back (map fields_of edits) (record { filled = filled-all edits; unmarked = unmarked-all edits })

module _ (reads : EditReadsBack) where
  lines-back : (edits : List Edit) → All IsWritable edits → map line_of (map fields_of edits) ≡ map line.Edit edits
  lines-back [] written = refl
  lines-back (edit ∷ edits) written =
      let here = All-head IsWritable edit edits written in
      λ i. ap line_by (reads edit here.0 here.1).1 i ∷ lines-back edits (All-tail IsWritable edit edits written) i

  pub script-canonical : (edits : List Edit) → All IsWritable edits
      → map line_of (records (journal_text (map canonical_line edits))) ≡ map line.Edit edits
  script-canonical edits written = ap (map line_of) (records-canonical edits) ∙ lines-back edits written
