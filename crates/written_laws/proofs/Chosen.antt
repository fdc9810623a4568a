-- The records of an accepted feed whose services are chosen name the trips of its slots.
use Rattle.std.proofs.Common.{◌≡◌, ℕ, suc, ◌+◌, ◌<◌, ◌≤◌, ◌&&◌, Bool, true, false, cond, List, [], ◌∷◌, ◌++◌, length, filter, get_or, map}
use Rattle.std.proofs.Common.{append_assoc, Option, None, Some, Result, Ok, not, unwrap_or, refl, sym, ap, subst, ◌∙◌, arith}
use Rattle.std.specs.Prelude.{All}
use Rattle.std.specs.List.{range_with_len}
use Rattle.std.specs.Str.{is_utf8}
use Rattle.std.proofs.lemmas.List.{append-nil, get_or-map}
use Rattle.std.proofs.lemmas.List.Elements.{All-map}
use Rattle.desk_io.specs.declared.shelf.Found.{Found}
use Rattle.desk_io.specs.declared.shelf.Found.TheVariants.{File}
use Rattle.gtfs_tables.specs.declared.fault.FeedFault.{FeedFault}
use Rattle.gtfs_tables.specs.declared.fault.FeedFault.TheVariants as fault
use Rattle.gtfs_tables.specs.declared.paper.Column.{Column}
use Rattle.gtfs_tables.specs.declared.paper.Column.TheVariants as column
use Rattle.gtfs_tables.specs.declared.paper.Paper.TheVariants as paper
use Rattle.gtfs_tables.specs.Fold.{Step, paper_read}
use Rattle.gtfs_tables.specs.Reading.{◌>>=◌, column_in, each_record, filled_in, text_in, place_of}
use Rattle.gtfs_tables.specs.Table.{TableView, table_of}
use Rattle.gtfs_tables.specs.Entries.{Name}
use Rattle.desk_settings.specs.Names.{is_among}
use Rattle.desk_settings.specs.Selected.{chosen_in as chosen_of, is_selected, selected}
use Rattle.desk_settings.specs.Settings.{SettingsView, class_of, is_chosen, is_classed}
use Rattle.trip_model.specs.Timetable.{TimetableView, Slot, slot_names}
use Rattle.feed_read.specs.Base.{base_of, ends_of, places_met, slot_of}
use Rattle.feed_read.specs.FeedTrips.{feed_trips_in, feed_trips_of}
use Rattle.feed_read.specs.Trips.{Selected, chosen_in, classed_columns_in, columns_in, nothing_selected, trips_in, with_chosen}
use Rattle.feed_read.specs.Trips.{with_classed_trip, with_selected, with_trip}
use Rattle.feed_read.specs.StopTimes.{stop_times_for}
use Rattle.claim_files.proofs.EachRecord.{provided-parts, read-parts, same_Ok}
use Rattle.written_laws.proofs.Base.{slots-of}
use Rattle.written_laws.proofs.Columns.{column_in-found}
use Rattle.written_laws.proofs.FeedTrips.{feed_trips-named}
use Rattle.written_laws.proofs.Records.{GivenBy, of-table, text-parts}
use Rattle.written_laws.specs.PlanLaws as spec
use Rattle.written_laws.specs.Planned.{AllRun, trip_field}

-- where the columns stand, and where those that are read where vehicles are of classes
abbrev Columns : Type 0
Columns = GivenBy columns_in

abbrev ClassedColumns : Type 0
ClassedColumns = GivenBy classed_columns_in

-- a column that was asked of the header stands in its place
pub place-asked : (asked : Column) (header : List (List ℕ)) (k : ℕ) → column_in paper.Trips asked header ≡ Ok k → k ≡ place_of asked header
place-asked asked header k at = sym (ap (λ found. unwrap_or found (length header)) (column_in-found paper.Trips asked header k at))

-- the name of a record that was read, if its service is chosen; this is text
record IsNamed (settings : SettingsView) (header row : List (List ℕ)) (found : Option Name) : Type 0 where
  text : is_utf8 (get_or row (place_of column.ServiceId header) []) ≡ true
  name : found ≡ cond (is_chosen settings (get_or row (place_of column.ServiceId header) []))
      (Some (get_or row (place_of column.TripId header) [])) None

chosen-named : (settings : SettingsView) (header row : List (List ℕ)) (columns : Columns) (number : ℕ) (found : Option Name)
    → columns_in header ≡ Ok columns
    → chosen_in settings columns number row ≡ Ok found → IsNamed settings header row found
unfolding columns_in chosen_in
chosen-named settings header row columns number found e said =
    let service_at = read-parts (column_in paper.Trips column.ServiceId header) _ columns e in
    let trip_at = read-parts (column_in paper.Trips column.TripId header) _ columns service_at.2 in
    let same = same_Ok _ columns trip_at.2 in
    let read = ap (λ c. chosen_in settings c number row) same ∙ said in
    let service = read-parts (text_in paper.Trips number column.ServiceId (get_or row service_at.0 [])) _ found read in
    let name = read-parts (text_in paper.Trips number column.TripId (get_or row trip_at.0 [])) _ found service.2 in
    let service_is = text-parts paper.Trips number column.ServiceId (get_or row service_at.0 []) service.0 service.1 in
    let name_is = text-parts paper.Trips number column.TripId (get_or row trip_at.0 []) name.0 name.1 in
    let service_place = place-asked column.ServiceId header service_at.0 service_at.1 in
    let trip_place = place-asked column.TripId header trip_at.0 trip_at.1 in
    record {
      text = ap (λ k. is_utf8 (get_or row k [])) (sym service_place) ∙ service_is.0;
      name =
          sym (same_Ok _ found name.2)
          ∙ (λ i. cond (is_chosen settings (sym service_is.1 i)) (Some (sym name_is.1 i)) None)
          ∙ (λ i. cond (is_chosen settings (get_or row (service_place i) [])) (Some (get_or row (trip_place i) [])) None);
    }

-- a selected trip is put behind those before it
selected-more : (number : ℕ) (before more : Selected) (name class : Name) → with_selected number before name class ≡ Ok more
    → more.names ≡ before.names ++ name ∷ []
unfolding with_selected
selected-more number before more name class e =
    let filled = read-parts (filled_in paper.Trips number column.TripId name) _ more e in
    let new = provided-parts (not (is_among name before.names)) (fault.DuplicateRow paper.Trips number) _ more filled.2 in
    let few = provided-parts _ (fault.TooManyTrips number) _ more new.1 in
    sym (ap (λ (s : Selected). s.names) (same_Ok _ more few.1))

-- what a record adds to the names, if its service is chosen
record AddsName (settings : SettingsView) (header row : List (List ℕ)) (before more : Selected) : Type 0 where
  text : is_utf8 (get_or row (place_of column.ServiceId header) []) ≡ true
  names : more.names ≡ before.names
      ++ cond (is_chosen settings (get_or row (place_of column.ServiceId header) [])) (get_or row (place_of column.TripId header) [] ∷ [])
      []

-- a reading of records of which each adds its name
abbrev AddsNames : SettingsView → List (List ℕ) → Step Selected → Type 0
AddsNames settings header read = (number : ℕ) (before more : Selected) (row : List (List ℕ)) → read number before row ≡ Ok more
    → AddsName settings header row before more

adds-name : (settings : SettingsView) (header row : List (List ℕ)) (before more : Selected) (found : Option Name)
    (next : Option Name → Result Selected FeedFault)
    → IsNamed settings header row found → next None ≡ Ok before
    → ((name : Name) → next (Some name) ≡ Ok more → more.names ≡ before.names ++ name ∷ []) → next found ≡ Ok more
    → AddsName settings header row before more
adds-name settings header row before more found next is none some e = record {
  text = is.text;
  names = by (is_chosen settings (get_or row (place_of column.ServiceId header) [])) (ap next (sym is.name) ∙ e);
}
  where
    by : (b : Bool) → next (cond b (Some (get_or row (place_of column.TripId header) [])) None) ≡ Ok more
        → more.names ≡ before.names ++ cond b (get_or row (place_of column.TripId header) [] ∷ []) []
    by true e = some (get_or row (place_of column.TripId header) []) e
    by false e = sym (ap (λ (s : Selected). s.names) (same_Ok before more (sym none ∙ e))) ∙ sym (append-nil before.names)

trip-adds : (settings : SettingsView) (header : List (List ℕ)) (columns : Columns) → columns_in header ≡ Ok columns
    → AddsNames settings header (with_trip settings columns)
unfolding with_trip
trip-adds settings header columns at number before more row e =
    let parts = read-parts (chosen_in settings columns number row) (with_chosen number before) more e in
    adds-name settings header row before more parts.0 (with_chosen number before)
    (chosen-named settings header row columns number parts.0 at parts.1) refl
    (λ name said. selected-more number before more name [] said) parts.2

classed-adds : (settings : SettingsView) (header : List (List ℕ)) (columns : ClassedColumns) → classed_columns_in header ≡ Ok columns
    → AddsNames settings header (with_classed_trip settings columns)
unfolding classed_columns_in with_classed_trip
classed-adds settings header columns at number before more row e =
    let plain = read-parts (columns_in header) _ columns at in
    let route = read-parts (column_in paper.Trips column.RouteId header) _ columns plain.2 in
    let same = same_Ok _ columns route.2 in
    let read = ap (λ c. with_classed_trip settings c number before row) same ∙ e in
    let parts = read-parts (chosen_in settings plain.0 number row) by_class more read in
    adds-name settings header row before more parts.0 by_class (chosen-named settings header row plain.0 number parts.0 plain.1 parts.1)
    refl
    (λ name said. let text = read-parts (text_in paper.Trips number column.RouteId (get_or row route.0 [])) _ more said in
    selected-more number before more name (class_of settings text.0) text.2) parts.2
  where
    by_class : Option Name → Result Selected FeedFault
    by_class None = Ok before
    by_class (Some name) = text_in paper.Trips number column.RouteId
        (get_or row (read-parts (column_in paper.Trips column.RouteId header) _ columns (read-parts (columns_in header) _ columns at).2).0
        []) >>= λ route. with_selected number before name (class_of settings route)

-- the `service_id` of a record
abbrev pub service_field : TableView → ℕ → List ℕ
service_field trips r = get_or (get_or trips.rows r []) (place_of column.ServiceId trips.header) []

-- a record whose service is text is selected where this is chosen
looked-up : (settings : SettingsView) (trips : TableView) (r : ℕ) → r < length trips.rows → is_utf8 (service_field trips r) ≡ true
    → get_or (chosen_of settings trips) r false ≡ is_chosen settings (service_field trips r)
looked-up settings trips r within text =
    get_or-map (is_selected settings (place_of column.ServiceId trips.header)) trips.rows r [] false within
    ∙ ap (λ b. b && is_chosen settings (service_field trips r)) text

-- the records of a table whose services are chosen add their names
module _ (settings : SettingsView) (trips : TableView) (read : Step Selected) (adds : AddsNames settings trips.header read) where
  each-named : (number s : ℕ) (before after : Selected) (rest : List (List (List ℕ)))
      → ((i : ℕ) → i < length rest → get_or rest i [] ≡ get_or trips.rows (s + i) []) → s + length rest ≤ length trips.rows
      → each_record read number before rest ≡ Ok after
      → after.names ≡ before.names ++ map (trip_field trips)
      (filter (λ r. get_or (chosen_of settings trips) r false) (range_with_len s (length rest)))
  each-named number s before after [] each few e = sym (ap (λ (s : Selected). s.names) (same_Ok before after e))
      ∙ sym (append-nil before.names)
  each-named number s before after (row ∷ rest) each few e =
      let parts = read-parts (read number before row) (λ more. each_record read (number + 1) more rest) after e in
      let here = adds number before parts.0 row parts.1 in
      let zero_more : s + 0 ≡ s = omega arith in
      let row_is : row ≡ get_or trips.rows s [] = each 0 (omega arith) ∙ ap (λ n. get_or trips.rows n []) zero_more in
      let chosen_is : get_or (chosen_of settings trips) s false ≡ is_chosen settings
      (get_or row (place_of column.ServiceId trips.header) []) =
      looked-up settings trips s (omega (arith, few))
      (ap (λ row. is_utf8 (get_or row (place_of column.ServiceId trips.header) [])) (sym row_is) ∙ here.text)
      ∙ ap (λ row. is_chosen settings (get_or row (place_of column.ServiceId trips.header) [])) (sym row_is) in
      let later = each-named (number + 1) (s + 1) parts.0 after rest
      (λ i within. each (suc i) (omega (arith, within))
      ∙ ap (λ n. get_or trips.rows n []) (let next : s + suc i ≡ s + 1 + i = omega arith in next))
      (omega (arith, few)) parts.2 in
      let kept = filter (λ r. get_or (chosen_of settings trips) r false) (range_with_len (s + 1) (length rest)) in
      later
      ∙ ap (λ names. names ++ map (trip_field trips) kept) here.names
      ∙ ap (λ b. before.names ++ cond b (get_or row (place_of column.TripId trips.header) [] ∷ []) [] ++ map (trip_field trips) kept)
      (sym chosen_is)
      ∙ by (get_or (chosen_of settings trips) s false) kept
      ∙ ap (λ row. before.names ++ put (get_or (chosen_of settings trips) s false) (get_or row (place_of column.TripId trips.header) [])
      kept) row_is
      ∙ ap (λ names. before.names ++ names) (again (get_or (chosen_of settings trips) s false) kept)
    where
      -- the names of records, and one before them
      put : Bool → List ℕ → List ℕ → List (List ℕ)
      put b name kept = cond b (name ∷ map (trip_field trips) kept) (map (trip_field trips) kept)

      by : (b : Bool) (kept : List ℕ)
          → before.names ++ cond b (get_or row (place_of column.TripId trips.header) [] ∷ []) [] ++ map (trip_field trips) kept
          ≡ before.names ++ cond b (get_or row (place_of column.TripId trips.header) [] ∷ map (trip_field trips) kept)
          (map (trip_field trips) kept)
      by true kept = append_assoc before.names (get_or row (place_of column.TripId trips.header) [] ∷ []) (map (trip_field trips) kept)
      by false kept = ap (λ names. names ++ map (trip_field trips) kept) (append-nil before.names)

      again : (b : Bool) (kept : List ℕ)
          → cond b (trip_field trips s ∷ map (trip_field trips) kept) (map (trip_field trips) kept) ≡ map (trip_field trips)
          (cond b (s ∷ kept) kept)
      again true kept = refl
      again false kept = refl

-- how a table was read
record IsRead (settings : SettingsView) (trips : TableView) (found : Selected) : Type 0 where
  read : Step Selected
  adds : AddsNames settings trips.header read
  all : each_record read 1 nothing_selected trips.rows ≡ Ok found
  service : ℕ
  service_at : column_in paper.Trips column.ServiceId trips.header ≡ Ok service

-- the header names a column of services
service-of : (header : List (List ℕ)) (columns : Columns) → columns_in header ≡ Ok columns
    → (k : ℕ) × (column_in paper.Trips column.ServiceId header ≡ Ok k)
unfolding columns_in
service-of header columns at = let service = read-parts (column_in paper.Trips column.ServiceId header) _ columns at in
    (service.0, service.1)

plain-of : (header : List (List ℕ)) (columns : ClassedColumns) → classed_columns_in header ≡ Ok columns
    → (plain : Columns) × (columns_in header ≡ Ok plain)
unfolding classed_columns_in
plain-of header columns at = let plain = read-parts (columns_in header) _ columns at in (plain.0, plain.1)

is-read : (settings : SettingsView) (bytes : List ℕ) (trips : TableView) (found : Selected) → table_of bytes ≡ Ok trips
    → trips_in settings (File bytes) ≡ Ok found → IsRead settings trips found
is-read settings bytes trips found from e = by (is_classed settings) e
  where
    by : (classed : Bool)
        → cond classed (paper_read paper.Trips classed_columns_in (with_classed_trip settings) nothing_selected (File bytes))
        (paper_read paper.Trips columns_in (with_trip settings) nothing_selected (File bytes)) ≡ Ok found
        → IsRead settings trips found
    by true e =
        let all = sym (of-table paper.Trips classed_columns_in (with_classed_trip settings) nothing_selected bytes trips from) ∙ e in
        let columns = read-parts (classed_columns_in trips.header) _ found all in
        let plain = plain-of trips.header columns.0 columns.1 in
        let service = service-of trips.header plain.0 plain.1 in
        record {
          read = with_classed_trip settings columns.0;
          adds = classed-adds settings trips.header columns.0 columns.1;
          all = columns.2;
          service = service.0;
          service_at = service.1;
        }
    by false e =
        let all = sym (of-table paper.Trips columns_in (with_trip settings) nothing_selected bytes trips from) ∙ e in
        let columns = read-parts (columns_in trips.header) _ found all in
        let service = service-of trips.header columns.0 columns.1 in
        record {
          read = with_trip settings columns.0;
          adds = trip-adds settings trips.header columns.0 columns.1;
          all = columns.2;
          service = service.0;
          service_at = service.1;
        }

-- the trips that were selected have the names of the chosen records
selected-named : (settings : SettingsView) (bytes : List ℕ) (trips : TableView) (found : Selected) → table_of bytes ≡ Ok trips
    → trips_in settings (File bytes) ≡ Ok found
    → map (trip_field trips) (selected trips (chosen_of settings trips)) ≡ found.names
selected-named settings bytes trips found from e =
    let is = is-read settings bytes trips found from e in
    sym (each-named settings trips is.read is.adds 1 0 nothing_selected found trips.rows
    (λ i within. ap (λ n. get_or trips.rows n []) (let same : i ≡ 0 + i = omega arith in same)) (omega arith) is.all)

-- the header of an accepted feed names the column of services
pub record HasServices (trips : TableView) : Type 0 where
  pub place : ℕ
  pub asked : column_in paper.Trips column.ServiceId trips.header ≡ Ok place
  pub at : place ≡ place_of column.ServiceId trips.header

services-in : (settings : SettingsView) (bytes : List ℕ) (trips : TableView) (found : Selected) → table_of bytes ≡ Ok trips
    → trips_in settings (File bytes) ≡ Ok found → HasServices trips
services-in settings bytes trips found from e =
    let is = is-read settings bytes trips found from e in
    record { place = is.service; asked = is.service_at; at = place-asked column.ServiceId trips.header is.service is.service_at }

-- the trips of a feed that is accepted: their slots are named by its selected records, and they run
pub record IsOfFeed (settings : SettingsView) (trips_found : Found) (base : TimetableView) : Type 0 where
  pub chosen : Selected
  pub read : trips_in settings trips_found ≡ Ok chosen
  pub names : slot_names base ≡ chosen.names
  pub runs : AllRun base

pub of-feed : (settings : SettingsView) (trips_found stop_times_found : Found) (base : TimetableView)
    → base_of settings trips_found stop_times_found ≡ Ok base → IsOfFeed settings trips_found base
unfolding base_of
of-feed settings trips_found stop_times_found base said =
    let found = read-parts (trips_in settings trips_found) _ base said in
    let feed_trips = read-parts (feed_trips_in settings found.0 stop_times_found) _ base found.2 in
    let timed = read-parts (stop_times_for found.0.names stop_times_found) (feed_trips_of settings found.0) feed_trips.0 feed_trips.1 in
    let slots = slots-of settings feed_trips.0 base feed_trips.2 in
    record {
      chosen = found.0;
      read = found.1;
      names = slots.0 ∙ feed_trips-named settings found.0.classes timed.0 found.0.names feed_trips.0 timed.2;
      runs = subst (All Runs) (sym slots.2)
          (All-map Runs (slot_of settings (places_met (ends_of settings feed_trips.0))) feed_trips.0 (λ k d within. refl));
    }
  where
    Runs : Slot → Type 0
    Runs slot = slot.trip.live ≡ true

pub feed-names-slots : spec.FeedNamesSlots
feed-names-slots settings trips_bytes stop_times trips base from said =
    let is = of-feed settings (File trips_bytes) stop_times base said in
    selected-named settings trips_bytes trips is.chosen from is.read ∙ sym is.names

pub feed-services : (settings : SettingsView) (trips_bytes : List ℕ) (stop_times : Found) (trips : TableView) (base : TimetableView)
    → table_of trips_bytes ≡ Ok trips
    → base_of settings (File trips_bytes) stop_times ≡ Ok base → HasServices trips
feed-services settings trips_bytes stop_times trips base from said =
    let is = of-feed settings (File trips_bytes) stop_times base said in
    services-in settings trips_bytes trips is.chosen from is.read
