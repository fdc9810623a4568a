-- The canonical lines of edits, and what is printed of refused ones.
use Rattle.std.specs.Prelude.{ℕ, ℤ, pos, List, [], ◌∷◌, ◌++◌, codes, int_lt, unsigned_abs, if◌then◌else◌}
use Rattle.std.specs.Fmt.{decimal}
use Rattle.gtfs_tables.specs.Times.{minute_digits}
use Rattle.edit_script.specs.declared.edit.Edit.{Edit}
use Rattle.edit_script.specs.declared.edit.Edit.TheVariants.{Shift, Cancel, Restore, Extra, Undo, Redo, Show}
use Rattle.edit_script.specs.declared.fault.EditFault.{EditFault}
use Rattle.edit_script.specs.declared.fault.EditFault.TheVariants as fault
use Rattle.edit_script.specs.declared.fault.TripEnd.{TripEnd}
use Rattle.edit_script.specs.declared.fault.TripEnd.TheVariants.{From, To}

-- a number with its sign, + where it is not negative
abbrev pub signed_text : ℤ → List ℕ
signed_text value = (if int_lt value (pos 0) then 45 else 43) ∷ decimal (unsigned_abs value)

-- rule: the line of an edit
-- the fields of the record of an edit; its canonical line is the text of that record, without the line feed
abbrev pub fields_of : Edit → List (List ℕ)
fields_of (Shift trip by) = codes "shift" ∷ trip ∷ signed_text by ∷ []
fields_of (Cancel trip) = codes "cancel" ∷ trip ∷ []
fields_of (Restore trip) = codes "restore" ∷ trip ∷ []
fields_of (Extra trip from to departs arrives) = codes "extra" ∷ trip ∷ from ∷ to ∷ minute_digits departs ∷ minute_digits arrives ∷ []
fields_of Undo = codes "undo" ∷ []
fields_of Redo = codes "redo" ∷ []
fields_of Show = codes "show" ∷ []

-- the printed name of an end of an extra trip
abbrev pub side_name_of : TripEnd → List ℕ
side_name_of From = codes "from"
side_name_of To = codes "to"

-- rule: the text of a refused edit
-- what is printed of a refused edit; of lack of memory nothing is
abbrev pub fault_text_of : EditFault → List ℕ
fault_text_of fault.NotAnEdit = codes "not an edit"
fault_text_of fault.UnknownTrip = codes "unknown trip"
fault_text_of fault.NotLive = codes "not live"
fault_text_of fault.NotCancelled = codes "not cancelled"
fault_text_of (fault.OutsideTolerance sum) = codes "outside tolerance (" ++ (signed_text sum ++ codes ")")
fault_text_of fault.BeforeMidnight = codes "before midnight"
fault_text_of fault.TripExists = codes "trip exists"
fault_text_of (fault.UnknownPlace side) = codes "unknown place " ++ side_name_of side
fault_text_of fault.ClassesDiffer = codes "two classes"
fault_text_of fault.NotForward = codes "not forward"
fault_text_of fault.TooManyTrips = codes "too many trips"
fault_text_of fault.NothingToUndo = codes "nothing to undo"
fault_text_of fault.NothingToRedo = codes "nothing to redo"
fault_text_of fault.TooManyShows = codes "too many shows"
fault_text_of fault.Memory = []
