-- The trips of `trips.txt` that are selected, and the classes of their vehicles.
use Rattle.std.specs.Prelude.{ℕ, not, List, [], ◌∷◌, ◌++◌, length, nat_lt, Option, Some, None, Result, Ok, if◌then◌else◌}
use Rattle.desk_io.specs.declared.shelf.Found.{Found}
use Rattle.gtfs_tables.specs.declared.fault.FeedFault.{FeedFault}
use Rattle.gtfs_tables.specs.declared.fault.FeedFault.TheVariants as fault
use Rattle.gtfs_tables.specs.declared.paper.Column.TheVariants as column
use Rattle.gtfs_tables.specs.declared.paper.Paper.TheVariants as paper
use Rattle.gtfs_tables.specs.Fold.{paper_read}
use Rattle.gtfs_tables.specs.Reading.{◌>>=◌, provided, column_in, field_at, text_in, filled_in}
use Rattle.gtfs_tables.specs.Entries.{Name}
use Rattle.trip_model.specs.declared.limits.TheConstants.{MOST_SLOTS}
use Rattle.desk_settings.specs.Names.{is_among}
use Rattle.desk_settings.specs.Settings.{SettingsView, is_chosen, is_classed, class_of}
use Rattle.feed_read.specs.declared.selection.Selection.{Selection}
use Rattle.feed_read.specs.declared.trips.ClassedColumns.{ClassedColumns}
use Rattle.feed_read.specs.declared.trips.Columns.{Columns}

-- the trips that are selected, and the class of each, which is empty where vehicles are of no classes
pub record Selected : Type 0 where
  pub names : List Name
  pub classes : List Name

-- what a clause sees of a selection
abbrev pub seen : Selection → Selected
seen selection = record { names = selection.names; classes = selection.classes.items }

-- no trips
abbrev pub nothing_selected : Selected
nothing_selected = record { names = []; classes = [] }

-- where the required columns are
unfoldable pub columns_in : List (List ℕ) → Result Columns FeedFault
columns_in header = do
  service ← column_in paper.Trips column.ServiceId header
  trip ← column_in paper.Trips column.TripId header
  Ok (record { service = service; trip = trip })

-- the same where vehicles are of classes, which routes have
unfoldable pub classed_columns_in : List (List ℕ) → Result ClassedColumns FeedFault
classed_columns_in header = do
  columns ← columns_in header
  route ← column_in paper.Trips column.RouteId header
  Ok (record { columns = columns; route = route })

-- the name of a record, if its service is chosen
unfoldable pub chosen_in : SettingsView → Columns → ℕ → List (List ℕ) → Result (Option Name) FeedFault
chosen_in settings columns number fields = do
  service ← text_in paper.Trips number column.ServiceId (field_at fields columns.service)
  name ← text_in paper.Trips number column.TripId (field_at fields columns.trip)
  Ok (if is_chosen settings service then Some name else None)

-- the selected trips with one more
abbrev pub selected_with : Selected → Name → Name → Selected
selected_with before name class = record { names = before.names ++ name ∷ []; classes = before.classes ++ class ∷ [] }

-- rule: too many trips
-- rule: two trips of one name
-- the selected trips, and that of a selected record with its class. Its name is not empty and no selected record before has it,
-- and it is at most the 4,096th
unfoldable pub with_selected : ℕ → Selected → Name → Name → Result Selected FeedFault
with_selected number before name class = do
  _ ← filled_in paper.Trips number column.TripId name
  provided (not (is_among name before.names)) (fault.DuplicateRow paper.Trips number)
      (provided (nat_lt (length before.names) MOST_SLOTS) (fault.TooManyTrips number)
      (Ok (selected_with before name class)))

-- the selected trips with that of a record, if it has a name that is chosen; of any other record nothing more is examined
abbrev pub with_chosen : ℕ → Selected → Option Name → Result Selected FeedFault
with_chosen number before None = Ok before
with_chosen number before (Some name) = with_selected number before name []

-- rule: the order of refusals within a file
-- the selected trips with that of a record
unfoldable pub with_trip : SettingsView → Columns → ℕ → Selected → List (List ℕ) → Result Selected FeedFault
with_trip settings columns number before fields = chosen_in settings columns number fields >>= with_chosen number before

-- the same where vehicles are of classes: the trip is of the class of its route
abbrev pub with_chosen_class : SettingsView → ClassedColumns → ℕ → Selected → List (List ℕ) → Option Name → Result Selected FeedFault
with_chosen_class settings columns number before fields None = Ok before
with_chosen_class settings columns number before fields (Some name) =
    text_in paper.Trips number column.RouteId (field_at fields columns.route) >>= λ route. with_selected number before name
    (class_of settings route)

-- rule: the order of refusals within a file
-- the selected trips with that of a record, where vehicles are of classes
unfoldable pub with_classed_trip : SettingsView → ClassedColumns → ℕ → Selected → List (List ℕ) → Result Selected FeedFault
with_classed_trip settings columns number before fields =
    chosen_in settings columns.columns number fields >>= with_chosen_class settings columns number before fields

-- the selected trips of the file, in the order of its records
abbrev pub trips_in : SettingsView → Found → Result Selected FeedFault
trips_in settings found =
    if is_classed settings then paper_read paper.Trips classed_columns_in (with_classed_trip settings) nothing_selected found
    else paper_read paper.Trips columns_in (with_trip settings) nothing_selected found
