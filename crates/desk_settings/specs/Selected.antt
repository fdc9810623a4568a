-- Which records of `trips.txt` are selected, and what their fields are.
use Rattle.std.specs.Prelude.{ℕ, ◌&&◌, Bool, false, List, [], length, map, filter, slice_index_or}
use Rattle.std.specs.List.{range_with_len}
use Rattle.std.specs.Str.{is_utf8}
use Rattle.gtfs_tables.specs.Reading.{field_at, place_of}
use Rattle.gtfs_tables.specs.Table.{TableView}
use Rattle.gtfs_tables.specs.declared.paper.Column.{Column}
use Rattle.gtfs_tables.specs.declared.paper.Column.TheVariants as column
use Rattle.desk_settings.specs.Settings.{SettingsView, is_chosen}

-- a service is text and is chosen
abbrev pub is_text_chosen : SettingsView → List ℕ → Bool
is_text_chosen settings service = is_utf8 service && is_chosen settings service

-- a record is selected where its service, in the column of that number, is one
abbrev pub is_selected : SettingsView → ℕ → List (List ℕ) → Bool
is_selected settings place row = is_text_chosen settings (field_at row place)

-- rule: which records of `trips.txt` are selected
-- which records of a table of trips are selected
abbrev pub chosen_in : SettingsView → TableView → List Bool
chosen_in settings trips = map (is_selected settings (place_of column.ServiceId trips.header)) trips.rows

-- the numbers, from 0, of the selected records, in their order
abbrev pub selected : TableView → List Bool → List ℕ
selected trips chosen = filter (λ r. slice_index_or chosen r false) (range_with_len 0 (length trips.rows))

-- the field of a record in the first column of that name; empty where there is no such column
abbrev pub field_of : Column → TableView → ℕ → List ℕ
field_of column trips r = field_at (slice_index_or trips.rows r []) (place_of column trips.header)

-- the fields of the selected records in that column, in their order: that of the n-th, counted from 0, is of the trip in slot n
abbrev pub selected_fields : Column → TableView → List Bool → List (List ℕ)
selected_fields column trips chosen = map (field_of column trips) (selected trips chosen)

-- the field of a slot; empty for a slot without a record, as that of an extra trip
abbrev pub slot_field : List (List ℕ) → ℕ → List ℕ
slot_field fields s = slice_index_or fields s []
