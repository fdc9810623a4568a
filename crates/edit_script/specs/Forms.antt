-- The forms of the records of a script, and the edits that they are.
use Rattle.std.specs.Prelude.{◌≡◌, ℕ, ◌+◌, ◌==◌, ◌&&◌, ℤ, pos, neg_ℤ, List, [], ◌∷◌, length, map, codes, Option, Some, None, Result, Ok}
use Rattle.std.specs.Prelude.{Err, IsSome, nat_lt, nat_le, if◌then◌else◌}
use Rattle.std.specs.Option.{option_map, option_and_then}
use Rattle.std.specs.Str.{bytes_eq, is_utf8}
use Rattle.gtfs_tables.specs.Numbers.{digits_number}
use Rattle.gtfs_tables.specs.Reading.{field_at, provided}
use Rattle.gtfs_tables.specs.Records.{records}
use Rattle.gtfs_tables.specs.Spaces.{without_spaces}
use Rattle.gtfs_tables.specs.Times.{minute_of}
use Rattle.gtfs_tables.specs.declared.fault.FeedFault.{FeedFault}
use Rattle.gtfs_tables.specs.declared.fault.FeedFault.TheVariants.{TooManyRecords}
use Rattle.gtfs_tables.specs.declared.paper.Paper.{Paper}
use Rattle.gtfs_tables.specs.declared.paper.TheConstants.{MOST_RECORDS}
use Rattle.edit_script.specs.declared.edit.Edit.{Edit}
use Rattle.edit_script.specs.declared.edit.Edit.TheVariants.{Shift, Cancel, Restore, Extra, Undo, Redo, Show}
use Rattle.edit_script.specs.declared.edit.Line.{Line}
use Rattle.edit_script.specs.declared.edit.Line.TheVariants as line
use Rattle.edit_script.specs.declared.edit.TheConstants.{MOST_SHIFT}
use Rattle.edit_script.specs.declared.fault.EditFault.{EditFault}
use Rattle.edit_script.specs.declared.fault.EditFault.TheVariants as fault

-- the number of fields up to the last that is not empty, of fields counted on from n, with what those before them gave
abbrev pub filled_from : ℕ → ℕ → List (List ℕ) → ℕ
filled_from n so_far [] = so_far
filled_from n so_far (field ∷ fields) = filled_from (n + 1) (if length field == 0 then so_far else n + 1) fields

-- the number of fields up to the last that is not empty
abbrev pub filled : List (List ℕ) → ℕ
filled fields = filled_from 0 0 fields

-- the text of a field, which must be UTF-8
abbrev pub text_in : List ℕ → Option (List ℕ)
text_in field = if is_utf8 field then Some field else None

-- the name in a field, which must be UTF-8 and not empty
abbrev pub name_in : List ℕ → Option (List ℕ)
name_in field = if length field == 0 then None else text_in field

-- the minute in a field
abbrev pub minute_in : List ℕ → Option ℕ
minute_in field = option_and_then minute_of (text_in field)

-- a number of minutes that a trip may be shifted by
abbrev pub shiftable : Option ℕ → Option ℕ
shiftable None = None
shiftable (Some n) = if nat_lt 0 n && nat_le n MOST_SHIFT then Some n else None

-- the minutes of a shift, without a sign: one to three digits, from 1 to 120
abbrev pub minutes : List ℕ → Option ℕ
minutes digits = shiftable (digits_number 3 digits)

-- the minutes of a shift, with or without a sign
abbrev pub signed : List ℕ → Option ℤ
signed [] = None
signed (byte ∷ digits) =
    if byte == 45 then option_map (λ n. neg_ℤ (pos n)) (minutes digits)
    else if byte == 43 then option_map pos (minutes digits)
    else option_map pos (minutes (byte ∷ digits))

-- the shift in a field, with spaces round it
abbrev pub shift_in : List ℕ → Option ℤ
shift_in field = signed (without_spaces field)

-- the edit that is a word alone
abbrev pub bare_edit : List ℕ → Option Edit
bare_edit word =
    if bytes_eq word (codes "undo") then Some Undo
    else if bytes_eq word (codes "redo") then Some Redo
    else if bytes_eq word (codes "show") then Some Show
    else None

-- the edit of a word and a trip
abbrev pub named_edit : List ℕ → List ℕ → Option Edit
named_edit word trip =
    if bytes_eq word (codes "cancel") then Some (Cancel trip)
    else if bytes_eq word (codes "restore") then Some (Restore trip)
    else None

abbrev pub trip_edit : List ℕ → List ℕ → Option Edit
trip_edit word trip = option_and_then (named_edit word) (name_in trip)

-- the shift of a trip
abbrev pub shift_edit : List ℕ → List ℕ → Option Edit
shift_edit trip by = option_and_then (λ trip. option_map (Shift trip) (shift_in by)) (name_in trip)

-- the extra trip of a record
abbrev pub extra_edit : List (List ℕ) → Option Edit
extra_edit row =
    option_and_then (λ trip.
    option_and_then (λ from.
    option_and_then (λ to.
    option_and_then (λ departs.
    option_map (Extra trip from to departs) (minute_in (field_at row 5))) (minute_in (field_at row 4))) (text_in (field_at row 3)))
    (text_in (field_at row 2))) (name_in (field_at row 1))

-- the edit of a word in a record of so many fields
abbrev pub edit_by : ℕ → List ℕ → List (List ℕ) → Option Edit
edit_by fields word row =
    if fields == 1 then bare_edit word
    else if fields == 2 then trip_edit word (field_at row 1)
    else if (fields == 3) && bytes_eq word (codes "shift") then shift_edit (field_at row 1) (field_at row 2)
    else if (fields == 6) && bytes_eq word (codes "extra") then extra_edit row
    else None

-- rule: which records are edits
-- the edit of a record, if it has one of the forms. Empty fields at its end, and spaces round its first word, are passed over
abbrev pub edit_of : List (List ℕ) → Option Edit
edit_of row = edit_by (filled row) (without_spaces (field_at row 0)) row

-- A read gives the edit of a record, or that it is of no form, or it found no memory for an edit.
abbrev pub GivesEdit : Result Edit EditFault → Option Edit → Type 0
GivesEdit (Ok edit) read = read ≡ Some edit
GivesEdit (Err fault.NotAnEdit) read = read ≡ None
GivesEdit (Err fault.Memory) read = IsSome read
GivesEdit (Err _) read = ⊥

-- the line of a record
abbrev pub line_by : Option Edit → Line
line_by (Some edit) = line.Edit edit
line_by None = line.NotAnEdit

abbrev pub line_of : List (List ℕ) → Line
line_of row = line_by (edit_of row)

-- the lines of the records of a file, at most so many
abbrev pub script_of : Paper → List ℕ → Result (List Line) FeedFault
script_of paper bytes = provided (nat_le (length (records bytes)) MOST_RECORDS) (TooManyRecords paper) (Ok (map line_of (records bytes)))
