-- Edits that are accepted one after the other.
use Rattle.std.specs.Prelude.{List, [], ◌∷◌, IsOk, ⊤}
use Rattle.trip_model.specs.Timetable.{TimetableView}
use Rattle.edit_script.specs.declared.edit.Line.{Line}
use Rattle.edit_script.specs.declared.edit.Line.TheVariants as line
use Rattle.edit_script.specs.Changes.{edited}
use Rattle.edit_script.specs.Machine.{Numbered, after_record}

-- a record is an edit of a trip that is accepted over a timetable
abbrev pub IsAccepted : TimetableView → Line → Type 0
IsAccepted t (line.Edit edit) = IsOk (edited t edit)
IsAccepted t line.NotAnEdit = ⊥

-- records, each accepted over those before it
abbrev pub Folds : TimetableView → List Numbered → Type 0
Folds t [] = ⊤
Folds t (r ∷ records) = IsAccepted t r.line × Folds (after_record t r) records
