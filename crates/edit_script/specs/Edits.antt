-- Edits, and which of them are in form.
use Rattle.std.specs.Prelude.{ℕ, ◌<◌, ◌≤◌, List, [], length, unsigned_abs, ⊤}
use Rattle.std.specs.Str.{IsUtf8}
use Rattle.edit_script.specs.declared.edit.Edit.{Edit}
use Rattle.edit_script.specs.declared.edit.Edit.TheVariants.{Shift, Cancel, Restore, Extra, Undo, Redo, Show}
use Rattle.edit_script.specs.declared.edit.Line.{Line}
use Rattle.edit_script.specs.declared.edit.Line.TheVariants as line
use Rattle.trip_model.specs.declared.limits.TheConstants.{LAST_DEPARTURE}
use Rattle.edit_script.specs.declared.edit.TheConstants.{MOST_SHIFT}

-- rule: the limits of an edit
-- an edit is in form: its trip has a name, a shift is 1 to 120 minutes either way, and minutes are at most 99:59
abbrev pub InForm : Edit → Type 0
InForm (Shift trip by) = (0 < length trip) × (0 < unsigned_abs by) × (unsigned_abs by ≤ MOST_SHIFT)
InForm (Cancel trip) = 0 < length trip
InForm (Restore trip) = 0 < length trip
InForm (Extra trip from to departs arrives) = (0 < length trip) × (departs ≤ LAST_DEPARTURE) × (arrives ≤ LAST_DEPARTURE)
InForm Undo = ⊤
InForm Redo = ⊤
InForm Show = ⊤

-- an edit of a trip
abbrev pub EditsTrip : Edit → Type 0
EditsTrip Undo = ⊥
EditsTrip Redo = ⊥
EditsTrip Show = ⊥
EditsTrip edit = ⊤

-- the trip that an edit names; the others name none
abbrev pub trip_of : Edit → List ℕ
trip_of (Shift trip by) = trip
trip_of (Cancel trip) = trip
trip_of (Restore trip) = trip
trip_of (Extra trip from to departs arrives) = trip
trip_of Undo = []
trip_of Redo = []
trip_of Show = []

-- the names of an edit are texts, as they are of every edit in memory
abbrev pub HasTexts : Edit → Type 0
HasTexts (Shift trip by) = IsUtf8 trip
HasTexts (Cancel trip) = IsUtf8 trip
HasTexts (Restore trip) = IsUtf8 trip
HasTexts (Extra trip from to departs arrives) = IsUtf8 trip × IsUtf8 from × IsUtf8 to
HasTexts Undo = ⊤
HasTexts Redo = ⊤
HasTexts Show = ⊤

-- the edit of a line, if it has one, is in form
abbrev pub IsLineInForm : Line → Type 0
IsLineInForm (line.Edit edit) = InForm edit
IsLineInForm line.NotAnEdit = ⊤
