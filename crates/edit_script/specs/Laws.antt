-- What is written of an edit reads back.
use Rattle.std.specs.Prelude.{◌≡◌, [], ◌∷◌, Some}
use Rattle.gtfs_tables.specs.Records.{records}
use Rattle.gtfs_tables.specs.Writing.{record_text}
use Rattle.edit_script.specs.declared.edit.Edit.{Edit}
use Rattle.edit_script.specs.Edits.{HasTexts, InForm}
use Rattle.edit_script.specs.Forms.{edit_of}
use Rattle.edit_script.specs.Lines.{fields_of}

-- the canonical line of an edit, with a line feed, is one record, and that record is the same edit
abbrev pub EditReadsBack : Type 0
EditReadsBack = (edit : Edit) → InForm edit → HasTexts edit
    → (records (record_text (fields_of edit)) ≡ fields_of edit ∷ []) × (edit_of (fields_of edit) ≡ Some edit)
