-- A table that is written reads back.
use Rattle.std.proofs.Common.{◌≡◌, ℕ, suc, ◌+◌, ◌-◌, ◌<◌, ◌≤◌, inl, inr, List, [], ◌∷◌, length, length-append, get_or, set, map, All, Bool}
use Rattle.std.proofs.Common.{true, false, None, Ok, refl, ap, ◌∙◌, arith}
use Rattle.std.specs.Prelude.{if◌then◌else◌}
use Rattle.std.specs.List.{position_from}
use Rattle.std.proofs.lemmas.Bool.{cases_lt, lt-ltb, le-ltb}
use Rattle.std.proofs.lemmas.List.{append-nil, get_or-map, length-map, length-set}
use Rattle.std.proofs.lemmas.List.Elements.{All-cons, All-from_get_or}
use Rattle.std.proofs.lemmas.List.FromFn.{get_or-map-range_with_len, length-map-range_with_len}
use Rattle.csv.specs.Reading.{strip_bom}
use Rattle.gtfs_tables.proofs.Written.{records-back}
use Rattle.gtfs_tables.specs.Rows.{padded}
use Rattle.gtfs_tables.specs.Table.{TableView, is_longer, table_from, table_of}
use Rattle.gtfs_tables.specs.declared.paper.Column.TheVariants as column
use Rattle.gtfs_tables.specs.Reading.{place_of, field_at}
use Rattle.trip_model.specs.Timetable.{TimetableView}
use Rattle.block_writer.specs.Fields.{with_field, table_text, slot_in}
use Rattle.block_writer.specs.Laws as spec
use Rattle.block_writer.specs.StopTimes.{moved_field, offset_of, stop_time_written, with_times}
use Rattle.block_writer.specs.Trips.{block_numbers, header_written, trip_written, trips_rows, with_blocks}

-- a record of that many fields is not padded
padded-same : (width : ℕ) (row : List (List ℕ)) → length row ≡ width → padded width row ≡ row
padded-same width row is =
    let none : width - length row ≡ 0 = omega arith in
    rw none (append-nil row)

-- records of that many fields stay as they are, and none is longer
none-longer : (width i : ℕ) (rows : List (List (List ℕ))) → All (λ row. length row ≡ width) rows
    → position_from (is_longer width) i rows ≡ None
none-longer width i [] all = refl
none-longer width i (row ∷ rows) all =
    let is : length row ≡ width = all 0 [] (omega arith) in
    rw (le-ltb width (length row) (omega arith)) (none-longer width (i + 1) rows (λ k d within. all (suc k) d (omega arith)))

all-padded : (width : ℕ) (rows : List (List (List ℕ))) → All (λ row. length row ≡ width) rows → map (padded width) rows ≡ rows
all-padded width [] all = refl
all-padded width (row ∷ rows) all =
    rw (padded-same width row (all 0 [] (omega arith)), all-padded width rows (λ k d within. all (suc k) d (omega arith))) refl

-- a table whose records have as many fields as its header
pub table-back : (table : TableView) → 0 < length table.header → All (λ row. length row ≡ length table.header) table.rows
    → strip_bom (table_text table) ≡ table_text table → table_of (table_text table) ≡ Ok table
table-back table some all unmarked =
    ap table_from (records-back (table.header ∷ table.rows) (record { filled = filled; unmarked = unmarked }))
    ∙ rw (none-longer (length table.header) 1 table.rows all, all-padded (length table.header) table.rows all) refl
  where
    filled : All (λ (fields : List (List ℕ)). 0 < length fields) (table.header ∷ table.rows)
    filled = All-cons (λ (fields : List (List ℕ)). 0 < length fields) table.header table.rows some
        (λ k d within. let is : length (get_or table.rows k d) ≡ length table.header = all k d within in omega arith)

-- the number of fields with another in a column, also in a header
width-with : (row : List (List ℕ)) (place : ℕ) (field : List ℕ) (header : List (List ℕ)) → length row ≡ length header
    → length (with_field row place field) ≡ length (header_written place header)
width-with row place field header same = elim (cases_lt place (length header)) [
  | inl within ↦
      let inside : place < length row = omega arith in
      rw (lt-ltb place (length row) inside, lt-ltb place (length header) within) (length-set row place field ∙ same)
  | inr past ↦
      let outside : length row ≤ place = omega arith in
      rw (le-ltb place (length row) outside, le-ltb place (length header) past) (simp length-append (omega arith))
]

some-header : (place : ℕ) (header : List (List ℕ)) → 0 < length (header_written place header)
some-header place header = elim (cases_lt place (length header)) [
  | inl within ↦ rw (lt-ltb place (length header) within) (omega arith)
  | inr past ↦ rw (le-ltb place (length header) past) (simp length-append (omega arith))
]

pub trips-back : spec.TripsReadBack
unfolding with_blocks
trips-back table timetable chosen blocks names is unmarked =
    table-back (with_blocks table timetable chosen blocks names) (some-header (place_of column.BlockId table.header) table.header)
    (All-from_get_or (λ (row : List (List ℕ)). length row ≡ length (header_written (place_of column.BlockId table.header) table.header))
    (trips_rows table timetable chosen blocks names) [] each) unmarked
  where
    f : ℕ → List (List ℕ)
    f r = trip_written timetable (block_numbers (length timetable.slots) blocks) names (place_of column.TripId table.header)
        (place_of column.BlockId table.header)
        (get_or chosen r false) (get_or table.rows r [])

    each : (i : ℕ) → i < length (trips_rows table timetable chosen blocks names)
        → length (get_or (trips_rows table timetable chosen blocks names) i []) ≡ length
        (header_written (place_of column.BlockId table.header) table.header)
    each i within =
        let inside : i < length table.rows = omega (arith, length-map-range_with_len f 0 (length table.rows)) in
        ap length (get_or-map-range_with_len f 0 (length table.rows) i i [] inside (omega arith))
        ∙ width-with (get_or table.rows i []) (place_of column.BlockId table.header) _ table.header (is.width i inside)

-- the number of fields with times moved
width-moved : (test : Bool) (row moved : List (List ℕ)) → length moved ≡ length row → length (if test then row else moved) ≡ length row
width-moved true row moved same = refl
width-moved false row moved same = same

width-times : (timetable : TimetableView) (base trip arrival departure : ℕ) (row : List (List ℕ))
    → length (stop_time_written timetable base trip arrival departure row) ≡ length row
width-times timetable base trip arrival departure row =
    width-moved _ row _
    (length-set (set row arrival (moved_field (offset_of timetable base (slot_in timetable trip row)) (field_at row arrival))) departure _
    ∙ length-set row arrival _)

pub stop-times-back : spec.StopTimesReadBack
unfolding with_times
stop-times-back table timetable base is some unmarked =
    table-back (with_times table timetable base) some
    (All-from_get_or (λ (row : List (List ℕ)). length row ≡ length table.header) (map f table.rows) [] each) unmarked
  where
    f : List (List ℕ) → List (List ℕ)
    f row = stop_time_written timetable base (place_of column.TripId table.header) (place_of column.ArrivalTime table.header)
        (place_of column.DepartureTime table.header) row

    each : (i : ℕ) → i < length (map f table.rows) → length (get_or (map f table.rows) i []) ≡ length table.header
    each i within =
        let inside : i < length table.rows = omega (arith, length-map table.rows f) in
        ap length (get_or-map f table.rows i [] [] inside) ∙ width-times timetable base _ _ _ (get_or table.rows i []) ∙ is.width i inside
