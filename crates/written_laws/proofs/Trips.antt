-- The trips that are selected are those of before, whatever stands in the column of the block.
use Rattle.std.proofs.Common.{◌≡◌, ◌≢◌, ℕ, ◌<◌, Bool, true, false, cond, List, [], ◌∷◌, ◌++◌, length, get_or, set, Option, Some, None}
use Rattle.std.proofs.Common.{Result, Ok, nat_lt, unwrap_or, refl, sym, ap, ◌∙◌, arith}
use Rattle.std.specs.Option.{ok_or}
use Rattle.std.specs.Str.{bytes_eq}
use Rattle.std.proofs.lemmas.List.{get_or-set_other, get_or_append_left}
use Rattle.std.proofs.lemmas.List.FromFn.{get_or-map-range_with_len, length-map-range_with_len}
use Rattle.desk_io.specs.declared.shelf.Found.TheVariants.{File}
use Rattle.gtfs_tables.specs.declared.fault.FeedFault.{FeedFault}
use Rattle.gtfs_tables.specs.declared.fault.FeedFault.TheVariants as fault
use Rattle.gtfs_tables.specs.declared.paper.Column.{Column}
use Rattle.gtfs_tables.specs.declared.paper.Column.TheVariants as column
use Rattle.gtfs_tables.specs.declared.paper.Paper.TheVariants as paper
use Rattle.gtfs_tables.specs.Fold.{Step, paper_read}
use Rattle.gtfs_tables.specs.Papers.{column_name_of}
use Rattle.gtfs_tables.specs.Reading.{◌>>=◌, column_in, each_record, field_at, text_in, place_of}
use Rattle.gtfs_tables.specs.Table.{TableView, IsTable, column_of, table_of}
use Rattle.gtfs_tables.specs.Entries.{Name}
use Rattle.desk_settings.specs.Settings.{SettingsView, class_of, is_chosen, is_classed}
use Rattle.trip_model.specs.Timetable.{TimetableView}
use Rattle.feed_read.specs.Trips.{Selected, chosen_in, classed_columns_in, columns_in, nothing_selected, trips_in, with_chosen}
use Rattle.feed_read.specs.Trips.{with_classed_trip, with_selected, with_trip}
use Rattle.block_writer.specs.Fields.{with_field}
use Rattle.block_writer.specs.Trips.{block_numbers, header_written, trip_written, trips_rows, with_blocks}
use Rattle.claim_files.proofs.FieldsBack.{then}
use Rattle.written_laws.proofs.Columns.{column-found, column-kept, column_in-found, columns-apart}
use Rattle.claim_files.proofs.EachRecord.{read-parts, same_Ok}
use Rattle.written_laws.proofs.Records.{GivenBy, each-same, of-table}

-- where the columns stand, and where those that are read where vehicles are of classes
abbrev Columns : Type 0
Columns = GivenBy columns_in

abbrev ClassedColumns : Type 0
ClassedColumns = GivenBy classed_columns_in

-- a column that is found stands in the header, and apart from that of the block, whether this is there or comes behind
block-apart : (name : List ℕ) (header : List (List ℕ)) (k : ℕ) → bytes_eq name (column_name_of column.BlockId) ≡ false
    → column_of name header ≡ Some k → k ≢ place_of column.BlockId header
block-apart name header k differ at = by (column_of (column_name_of column.BlockId) header) refl
  where
    by : (found : Option ℕ) → column_of (column_name_of column.BlockId) header ≡ found → k ≢ unwrap_or found (length header)
    by None is = λ same. let within = (column-found name header k at).0 in absurd (omega (arith, within, same))
    by (Some j) is = columns-apart name (column_name_of column.BlockId) header k j differ at is

-- it is found in the header that is written
header-kept : (name : List ℕ) (block : ℕ) (header : List (List ℕ)) (k : ℕ) → column_of name header ≡ Some k
    → column_of name (header_written block header) ≡ Some k
header-kept name block header k at = by (nat_lt block (length header))
  where
    by : (b : Bool) → column_of name (cond b header (header ++ column_name_of column.BlockId ∷ [])) ≡ Some k
    by true = at
    by false = column-kept name header (column_name_of column.BlockId ∷ []) k at

pub asked-kept : (asked : Column) (block : ℕ) (header : List (List ℕ)) (k : ℕ) → column_in paper.Trips asked header ≡ Ok k
    → column_in paper.Trips asked (header_written block header) ≡ Ok k
asked-kept asked block header k at =
    ap (λ found. ok_or found (fault.NoColumn paper.Trips asked))
    (header-kept (column_name_of asked) block header k (column_in-found paper.Trips asked header k at))

columns-kept : (block : ℕ) (header : List (List ℕ)) (columns : Columns) → columns_in header ≡ Ok columns
    → columns_in (header_written block header) ≡ Ok columns
unfolding columns_in
columns-kept block header columns e =
    let service = read-parts (column_in paper.Trips column.ServiceId header) _ columns e in
    let trip = read-parts (column_in paper.Trips column.TripId header) _ columns service.2 in
    then (column_in paper.Trips column.ServiceId (header_written block header)) service.0 _ _
    (asked-kept column.ServiceId block header service.0 service.1)
    (then (column_in paper.Trips column.TripId (header_written block header)) trip.0 _ _
    (asked-kept column.TripId block header trip.0 trip.1) trip.2)

classed-kept : (block : ℕ) (header : List (List ℕ)) (columns : ClassedColumns) → classed_columns_in header ≡ Ok columns
    → classed_columns_in (header_written block header) ≡ Ok columns
unfolding classed_columns_in
classed-kept block header columns e =
    let plain = read-parts (columns_in header) _ columns e in
    let route = read-parts (column_in paper.Trips column.RouteId header) _ columns plain.2 in
    then (columns_in (header_written block header)) plain.0 _ _ (columns-kept block header plain.0 plain.1)
    (then (column_in paper.Trips column.RouteId (header_written block header)) route.0 _ _
    (asked-kept column.RouteId block header route.0 route.1) route.2)

-- a field of a record in which another one is written
other-field : (row : List (List ℕ)) (place : ℕ) (field : List ℕ) (at : ℕ) → at < length row → at ≢ place
    → field_at (with_field row place field) at ≡ field_at row at
other-field row place field at within apart = by (nat_lt place (length row))
  where
    by : (b : Bool) → get_or (cond b (set row place field) (row ++ field ∷ [])) at [] ≡ get_or row at []
    by true = get_or-set_other row place at field [] apart
    by false = get_or_append_left row (field ∷ []) [] at within

-- a record of a table with another block: it has the fields of all columns but that of the block
module _ (header row : List (List ℕ)) (block : List ℕ) (wide : length row ≡ length header) where
  abbrev other : List (List ℕ)
  other = with_field row (place_of column.BlockId header) block

  pub asked-field : (asked : Column) (k : ℕ) → bytes_eq (column_name_of asked) (column_name_of column.BlockId) ≡ false
      → column_in paper.Trips asked header ≡ Ok k → field_at other k ≡ field_at row k
  asked-field asked k differ at =
      let found = column_in-found paper.Trips asked header k at in
      let within = (column-found (column_name_of asked) header k found).0 in
      other-field row (place_of column.BlockId header) block k (omega (arith, within, wide))
      (block-apart (column_name_of asked) header k differ found)

  chosen-same : (settings : SettingsView) (columns : Columns) (number : ℕ) → columns_in header ≡ Ok columns
      → chosen_in settings columns number other ≡ chosen_in settings columns number row
  unfolding columns_in chosen_in
  chosen-same settings columns number e =
      let service = read-parts (column_in paper.Trips column.ServiceId header) _ columns e in
      let trip = read-parts (column_in paper.Trips column.TripId header) _ columns service.2 in
      let same = same_Ok _ columns trip.2 in
      let one = asked-field column.ServiceId service.0 refl service.1 in
      let two = asked-field column.TripId trip.0 refl trip.1 in
      ap (λ c. chosen_in settings c number other) (sym same)
      ∙ (λ i. text_in paper.Trips number column.ServiceId (one i) >>= λ service. text_in paper.Trips number column.TripId (two i) >>=
      λ name. Ok (cond (is_chosen settings service) (Some name) None))
      ∙ ap (λ c. chosen_in settings c number row) same

  trip-same : (settings : SettingsView) (columns : Columns) (number : ℕ) (before : Selected) → columns_in header ≡ Ok columns
      → with_trip settings columns number before other ≡ with_trip settings columns number before row
  unfolding with_trip
  trip-same settings columns number before e = ap (λ found. found >>= with_chosen number before) (chosen-same settings columns number e)

  classed-same : (settings : SettingsView) (columns : ClassedColumns) (number : ℕ) (before : Selected)
      → classed_columns_in header ≡ Ok columns
      → with_classed_trip settings columns number before other ≡ with_classed_trip settings columns number before row
  unfolding classed_columns_in with_classed_trip
  classed-same settings columns number before e =
      let plain = read-parts (columns_in header) _ columns e in
      let route = read-parts (column_in paper.Trips column.RouteId header) _ columns plain.2 in
      let same = same_Ok _ columns route.2 in
      let one = asked-field column.RouteId route.0 refl route.1 in
      ap (λ c. with_classed_trip settings c number before other) (sym same)
      ∙ (λ i. chosen-same settings plain.0 number plain.1 i >>= by_class (one i))
      ∙ ap (λ c. with_classed_trip settings c number before row) same
    where
      by_class : List ℕ → Option Name → Result Selected FeedFault
      by_class field None = Ok before
      by_class field (Some name) = text_in paper.Trips number column.RouteId field >>= λ route. with_selected number before name
          (class_of settings route)

-- the selected trips of a table with blocks
module _ (settings : SettingsView) (table : TableView) (standing : TimetableView) (chosen : List Bool)
    (blocks names : List (List ℕ)) (is : IsTable table) where
  abbrev block : ℕ
  block = place_of column.BlockId table.header

  abbrev row_written : ℕ → List (List ℕ)
  row_written r =
      trip_written standing (block_numbers (length standing.slots) blocks) names (place_of column.TripId table.header) block
      (get_or chosen r false) (get_or table.rows r [])

  -- any reading of records that looks at no block
  rows-same : {A : Type 0} (read : Step A) (start : A)
      → ((row : List (List ℕ)) (field : List ℕ) (m : ℕ) (b : A) → length row ≡ length table.header
      → read m b (with_field row block field) ≡ read m b row)
      → each_record read 1 start (trips_rows table standing chosen blocks names) ≡ each_record read 1 start table.rows
  rows-same read start same =
      each-same read 1 start table.rows (trips_rows table standing chosen blocks names)
      (length-map-range_with_len row_written 0 (length table.rows))
      (λ i within m b. ap (read m b) (get_or-map-range_with_len row_written 0 (length table.rows) i i [] within (omega arith))
      ∙ same (get_or table.rows i []) _ m b (is.width i within))

  plain-back : (bytes written : List ℕ) (selected : Selected) → table_of bytes ≡ Ok table
      → table_of written ≡ Ok (with_blocks table standing chosen blocks names)
      → paper_read paper.Trips columns_in (with_trip settings) nothing_selected (File bytes) ≡ Ok selected
      → paper_read paper.Trips columns_in (with_trip settings) nothing_selected (File written) ≡ Ok selected
  unfolding with_blocks
  plain-back bytes written selected from to e =
      let read = sym (of-table paper.Trips columns_in (with_trip settings) nothing_selected bytes table from) ∙ e in
      let columns = read-parts (columns_in table.header) _ selected read in
      of-table paper.Trips columns_in (with_trip settings) nothing_selected written (with_blocks table standing chosen blocks names) to
      ∙ then (columns_in (header_written block table.header)) columns.0 _ _ (columns-kept block table.header columns.0 columns.1)
      (rows-same (with_trip settings columns.0) nothing_selected
      (λ row field m b wide. trip-same table.header row field wide settings columns.0 m b columns.1) ∙ columns.2)

  classed-back : (bytes written : List ℕ) (selected : Selected) → table_of bytes ≡ Ok table
      → table_of written ≡ Ok (with_blocks table standing chosen blocks names)
      → paper_read paper.Trips classed_columns_in (with_classed_trip settings) nothing_selected (File bytes) ≡ Ok selected
      → paper_read paper.Trips classed_columns_in (with_classed_trip settings) nothing_selected (File written) ≡ Ok selected
  unfolding with_blocks
  classed-back bytes written selected from to e =
      let read = sym (of-table paper.Trips classed_columns_in (with_classed_trip settings) nothing_selected bytes table from) ∙ e in
      let columns = read-parts (classed_columns_in table.header) _ selected read in
      of-table paper.Trips classed_columns_in (with_classed_trip settings) nothing_selected written
      (with_blocks table standing chosen blocks names) to
      ∙ then (classed_columns_in (header_written block table.header)) columns.0 _ _ (classed-kept block table.header columns.0 columns.1)
      (rows-same (with_classed_trip settings columns.0) nothing_selected
      (λ row field m b wide. classed-same table.header row field wide settings columns.0 m b columns.1) ∙ columns.2)

  pub trips-back : (bytes written : List ℕ) (selected : Selected) → table_of bytes ≡ Ok table
      → table_of written ≡ Ok (with_blocks table standing chosen blocks names)
      → trips_in settings (File bytes) ≡ Ok selected → trips_in settings (File written) ≡ Ok selected
  trips-back bytes written selected from to e = by (is_classed settings) e
    where
      by : (classed : Bool)
          → cond classed (paper_read paper.Trips classed_columns_in (with_classed_trip settings) nothing_selected (File bytes))
          (paper_read paper.Trips columns_in (with_trip settings) nothing_selected (File bytes)) ≡ Ok selected
          → cond classed (paper_read paper.Trips classed_columns_in (with_classed_trip settings) nothing_selected (File written))
          (paper_read paper.Trips columns_in (with_trip settings) nothing_selected (File written)) ≡ Ok selected
      by true e = classed-back bytes written selected from to e
      by false e = plain-back bytes written selected from to e
