-- A timetable of one trip with five records, and a script for examples/depot with what is printed of it.
use Rattle.std.specs.Prelude.{ℕ, List, [], ◌∷◌, codes, pos, true, false}
use Rattle.edit_script.specs.Machine.{Numbered, edit_record}
use Rattle.edit_script.specs.declared.edit.Edit.TheVariants.{Cancel, Redo, Shift, Undo}
use Rattle.edit_script.specs.declared.edit.Line.{Line}
use Rattle.edit_script.specs.declared.edit.Line.TheVariants as line
use Rattle.examples_computed.specs.Claims.{lines_of}
use Rattle.trip_model.specs.Place.{terminal_place}
use Rattle.trip_model.specs.Timetable.{TimetableView}

-- U1 from A at 06:00 to B at 06:30, at most 10 minutes later
abbrev pub one_trip : TimetableView
one_trip = record {
  classed = false;
  places = terminal_place (codes "A") 0 ∷ terminal_place (codes "B") 0 ∷ [];
  slots = record {
    name = codes "U1";
    trip = record { from = 0; to = 1; departs = 360; ends = 390; offset = pos 0; early = 0; late = 10; live = true };
  } ∷ [];
  early = 0;
  late = 0;
}

abbrev pub records : List Numbered
records = edit_record 1 (Shift (codes "U1") (pos 5)) ∷ edit_record 2 (Cancel (codes "U1")) ∷ edit_record 3 Undo ∷ edit_record 4 Redo
    ∷ edit_record 5 (Shift (codes "U1") (pos 1)) ∷ []

-- the second trip is cancelled, that is undone, the first is shifted, and the cancelling is done again
abbrev pub script_file : List ℕ
script_file = lines_of (codes "cancel,U2" ∷ codes "undo" ∷ codes "shift,U1,5" ∷ codes "redo" ∷ [])

abbrev pub script : List Line
script = line.Edit (Cancel (codes "U2")) ∷ line.Edit Undo ∷ line.Edit (Shift (codes "U1") (pos 5)) ∷ line.Edit Redo ∷ []

abbrev pub answers : List ℕ
answers = lines_of (codes "record 1: ok, fixed 1, vehicles 1, minutes 10" ∷ codes "record 2: ok, fixed 2, vehicles 1, minutes 45"
    ∷ codes "record 3: refused, U1: outside tolerance (+5)" ∷ codes "record 4: ok, fixed 1, vehicles 1, minutes 10" ∷ [])
