-- The tolerances that `tolerances.csv` gives trips, in minutes.
use Rattle.std.specs.Prelude.{ℕ, List, [], Result, Ok}
use Rattle.desk_io.specs.declared.shelf.Found.{Found}
use Rattle.gtfs_tables.specs.declared.fault.FeedFault.{FeedFault}
use Rattle.gtfs_tables.specs.declared.paper.Column.TheVariants as column
use Rattle.gtfs_tables.specs.declared.paper.Paper.TheVariants as paper
use Rattle.gtfs_tables.specs.Fold.{optional_read}
use Rattle.gtfs_tables.specs.Reading.{◌>>=◌, column_in, field_at, text_in, filled_in, number_in}
use Rattle.gtfs_tables.specs.Entries.{Name, Entries, with_record}
use Rattle.trip_model.specs.declared.limits.TheConstants.{MOST_TOLERANCE}
use Rattle.desk_settings.specs.declared.tolerances.Columns.{Columns}

-- where the required columns are
unfoldable pub columns_in : List (List ℕ) → Result Columns FeedFault
columns_in header = do
  trip ← column_in paper.Tolerances column.TripId header
  early ← column_in paper.Tolerances column.Early header
  late ← column_in paper.Tolerances column.Late header
  Ok (record { trip = trip; early = early; late = late })

-- the trip and the tolerances of one record
unfoldable pub tolerance_in : Columns → ℕ → List (List ℕ) → Result (Name × (ℕ × ℕ)) FeedFault
tolerance_in columns number fields = do
  trip ← text_in paper.Tolerances number column.TripId (field_at fields columns.trip)
  early_text ← text_in paper.Tolerances number column.Early (field_at fields columns.early)
  late_text ← text_in paper.Tolerances number column.Late (field_at fields columns.late)
  _ ← filled_in paper.Tolerances number column.TripId trip
  _ ← filled_in paper.Tolerances number column.Early early_text
  _ ← filled_in paper.Tolerances number column.Late late_text
  early ← number_in paper.Tolerances number column.Early 2 MOST_TOLERANCE early_text
  late ← number_in paper.Tolerances number column.Late 2 MOST_TOLERANCE late_text
  Ok (trip, (early, late))

-- rule: the order of refusals within a file
-- the tolerances with those of one record
abbrev pub with_tolerance : Columns → ℕ → Entries (ℕ × ℕ) → List (List ℕ) → Result (Entries (ℕ × ℕ)) FeedFault
with_tolerance columns number before fields = tolerance_in columns number fields >>= with_record paper.Tolerances number before

-- the tolerances of the file, record by record; without one there are none
abbrev pub tolerances_of : Found → Result (Entries (ℕ × ℕ)) FeedFault
tolerances_of found = optional_read paper.Tolerances columns_in with_tolerance [] found
