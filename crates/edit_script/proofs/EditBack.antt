-- The canonical line of an edit reads back as the same edit.
use Rattle.std.proofs.Common.{◌≡◌, ℕ, ◌+◌, ◌<◌, ◌==◌, false, cond, List, [], ◌∷◌, length, Some, None, Option, refl, sym, ap, ◌∙◌, arith}
use Rattle.std.specs.Prelude.{codes}
use Rattle.std.specs.Option.{option_map, option_and_then}
use Rattle.std.specs.Str.{IsUtf8}
use Rattle.std.proofs.lemmas.Bool.{ne_eqb}
use Rattle.std.proofs.lemmas.List.{append-nil}
use Rattle.std.proofs.lemmas.List.Elements.{All-cons, All-nil}
use Rattle.csv.specs.Reading.{strip_bom}
use Rattle.csv.specs.Writing.{fields_text, is_blank}
use Rattle.gtfs_tables.specs.Records.{records}
use Rattle.gtfs_tables.specs.Times.{minute_digits}
use Rattle.gtfs_tables.specs.Writing.{record_text, ReadBack}
use Rattle.gtfs_tables.proofs.Written.{records-back}
use Rattle.edit_script.specs.declared.edit.Edit.{Edit}
use Rattle.edit_script.specs.declared.edit.Edit.TheVariants.{Shift, Cancel, Restore, Extra, Undo, Redo, Show}
use Rattle.edit_script.specs.Edits.{HasTexts, InForm}
use Rattle.edit_script.specs.Forms.{edit_by, edit_of, filled_from, minute_in, name_in, named_edit, shift_in, text_in}
use Rattle.edit_script.specs.Lines.{fields_of, signed_text}
use Rattle.edit_script.proofs.FieldsRead.{text-utf8}
use Rattle.edit_script.proofs.MinuteText.{minute-some, minute_in-back}
use Rattle.edit_script.proofs.ShiftBack.{shift-back}

-- a record that is written is read as it stands
record-back : (fields : List (List ℕ)) → 0 < length fields → strip_bom (record_text fields) ≡ record_text fields
    → records (record_text fields) ≡ fields ∷ []
record-back fields some unmarked =
    let same = append-nil (record_text fields) in
    let back : ReadBack (fields ∷ []) =
    record {
      filled = All-cons (λ (fields : List (List ℕ)). 0 < length fields) fields [] some
          (All-nil (λ (fields : List (List ℕ)). 0 < length fields));
      unmarked = ap strip_bom same ∙ unmarked ∙ sym same;
    } in
    ap records (sym same) ∙ records-back (fields ∷ []) back

-- no canonical line begins with a byte-order mark: each begins with its word
unmarked : (edit : Edit) → strip_bom (record_text (fields_of edit)) ≡ record_text (fields_of edit)
unfolding strip_bom fields_text is_blank
unmarked (Shift trip by) = refl
unmarked (Cancel trip) = refl
unmarked (Restore trip) = refl
unmarked (Extra trip from to departs arrives) = refl
unmarked Undo = refl
unmarked Redo = refl
unmarked Show = refl

some-fields : (edit : Edit) → 0 < length (fields_of edit)
some-fields (Shift trip by) = omega arith
some-fields (Cancel trip) = omega arith
some-fields (Restore trip) = omega arith
some-fields (Extra trip from to departs arrives) = omega arith
some-fields Undo = omega arith
some-fields Redo = omega arith
some-fields Show = omega arith

not-empty : (name : List ℕ) → 0 < length name → (length name == 0) ≡ false
not-empty name some = ne_eqb (length name) 0 (λ e. absurd (omega (arith, some, e)))

name-back : (name : List ℕ) → 0 < length name → IsUtf8 name → name_in name ≡ Some name
name-back name some is = ap (λ b. cond b None (text_in name)) (not-empty name some) ∙ text-utf8 name is

-- fields of which the last is not empty
last-filled : (n so_far : ℕ) (last : List ℕ) → (length last == 0) ≡ false → filled_from n so_far (last ∷ []) ≡ n + 1
last-filled n so_far last some = ap (λ b. cond b so_far (n + 1)) some

-- what is read of a field, and then of the others
then : {A B : Type 0} (read : Option A) (x : A) (next : A → Option B) (given : Option B) → read ≡ Some x → next x ≡ given
    → option_and_then next read ≡ given
then read x next given is rest = ap (option_and_then next) is ∙ rest

edit-back : (edit : Edit) → InForm edit → HasTexts edit → edit_of (fields_of edit) ≡ Some edit
edit-back (Shift trip by) form texts =
    ap (λ n. edit_by n (codes "shift") (fields_of (Shift trip by)))
    (last-filled 2 _ (signed_text by) (not-empty (signed_text by) (omega arith)))
    ∙ then (name_in trip) trip (λ trip. option_map (Shift trip) (shift_in (signed_text by))) (Some (Shift trip by))
    (name-back trip form.0 texts)
    (ap (option_map (Shift trip)) (shift-back by form.1 form.2))
edit-back (Cancel trip) form texts =
    ap (λ n. edit_by n (codes "cancel") (fields_of (Cancel trip))) (last-filled 1 _ trip (not-empty trip form))
    ∙ ap (option_and_then (named_edit (codes "cancel"))) (name-back trip form texts)
edit-back (Restore trip) form texts =
    ap (λ n. edit_by n (codes "restore") (fields_of (Restore trip))) (last-filled 1 _ trip (not-empty trip form))
    ∙ ap (option_and_then (named_edit (codes "restore"))) (name-back trip form texts)
edit-back (Extra trip from to departs arrives) form texts =
    ap (λ n. edit_by n (codes "extra") (fields_of (Extra trip from to departs arrives)))
    (last-filled 5 _ (minute_digits arrives) (minute-some arrives))
    ∙ then (name_in trip) trip _ (Some (Extra trip from to departs arrives)) (name-back trip form.0 texts.0)
    (then (text_in from) from _ (Some (Extra trip from to departs arrives)) (text-utf8 from texts.1)
    (then (text_in to) to _ (Some (Extra trip from to departs arrives)) (text-utf8 to texts.2)
    (then (minute_in (minute_digits departs)) departs _ (Some (Extra trip from to departs arrives)) (minute_in-back departs form.1)
    (ap (option_map (Extra trip from to departs)) (minute_in-back arrives form.2)))))
edit-back Undo form texts = refl
edit-back Redo form texts = refl
edit-back Show form texts = refl

pub line-back : (edit : Edit) → InForm edit → HasTexts edit
    → (records (record_text (fields_of edit)) ≡ fields_of edit ∷ []) × (edit_of (fields_of edit) ≡ Some edit)
line-back edit form texts = (record-back (fields_of edit) (some-fields edit) (unmarked edit), edit-back edit form texts)
