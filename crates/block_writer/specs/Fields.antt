-- Fields of the records of a table that is written.
use Rattle.std.specs.Prelude.{ℕ, List, [], ◌∷◌, ◌++◌, length, nat_lt, slice_set, Option, if◌then◌else◌}
use Rattle.gtfs_tables.specs.Reading.{field_at}
use Rattle.gtfs_tables.specs.Table.{TableView}
use Rattle.gtfs_tables.specs.Writing.{records_text}
use Rattle.trip_model.specs.Timetable.{TimetableView, number_of, slot_names}

-- a record with another field in that column, which comes at the end where it is new
abbrev pub with_field : List (List ℕ) → ℕ → List ℕ → List (List ℕ)
with_field row place field = if nat_lt place (length row) then slice_set row place field else row ++ field ∷ []

-- the slot of the trip that a record names in the column of that number
abbrev pub slot_in : TimetableView → ℕ → List (List ℕ) → Option ℕ
slot_in timetable trip row = number_of (slot_names timetable) (field_at row trip)

-- the text of a table: its header, and its records in their order
abbrev pub table_text : TableView → List ℕ
table_text table = records_text (table.header ∷ table.rows)
