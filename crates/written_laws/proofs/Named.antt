-- The `block_id` of the selected records are the names of the blocks in which the trips of their slots stand.
use Rattle.std.proofs.Common.{◌≡◌, ℕ, suc, ◌+◌, ◌-◌, ◌<◌, ◌≤◌, ⊎_elim, Bool, true, false, cond, List, [], ◌∷◌, ◌++◌, length, filter}
use Rattle.std.proofs.Common.{get_or, map, set, Option, None, Some, unwrap_or, refl, sym, ap, ◌∙◌, arith}
use Rattle.std.specs.Prelude.{All}
use Rattle.std.specs.List.{position_from, range_with_len}
use Rattle.std.proofs.lemmas.Bool.{cases_lt, le-ltb, lt-ltb}
use Rattle.std.proofs.lemmas.List.{ext_get_or, get_or-append_right, get_or-map, get_or-set_same, length-map}
use Rattle.std.proofs.lemmas.List.Elements.{All-filter, All-from_get_or, filter_passes}
use Rattle.std.proofs.lemmas.List.FromFn.{get_or-map-range_with_len, get_or-range_with_len, length-map-range_with_len}
use Rattle.std.proofs.lemmas.List.FromFn.{length-range_with_len}
use Rattle.gtfs_tables.specs.declared.paper.Column.TheVariants as column
use Rattle.gtfs_tables.specs.Papers.{column_name_of}
use Rattle.gtfs_tables.specs.Spaces.{without_spaces}
use Rattle.gtfs_tables.specs.Table.{TableView, IsTable, column_of}
use Rattle.gtfs_tables.specs.Reading.{field_at, place_of}
use Rattle.desk_settings.specs.Selected.{selected}
use Rattle.std.specs.Str.{bytes_eq}
use Rattle.trip_model.specs.Timetable.{TimetableView, Slot, number_of, slot_names}
use Rattle.block_writer.specs.Fields.{slot_in, with_field}
use Rattle.block_writer.specs.Trips.{block_numbers, block_of, header_written, name_of, number_in, trip_written, trips_rows, with_blocks}
use Rattle.block_audit.specs.Stated.{block_field, stated_names}
use Rattle.claim_files.proofs.NamesFound.{number-distinct}
use Rattle.written_laws.proofs.Columns.{column-found}
use Rattle.written_laws.specs.PlanLaws as spec
use Rattle.written_laws.specs.Planned.{AllRun, names_by_slot, trip_field}

-- a column that passes is found behind columns of which none does
place-new : (p : List ℕ → Bool) (i : ℕ) (header : List (List ℕ)) (name : List ℕ) → position_from p i header ≡ None → p name ≡ true
    → position_from p i (header ++ name ∷ []) ≡ Some (i + length header)
place-new p i [] name none is = ap (λ b. cond b (Some i) None) is ∙ ap Some (let same : i ≡ i + 0 = omega arith in same)
place-new p i (column ∷ header) name none is = by (p column) none (place-new p (i + 1) header name)
  where
    by : (b : Bool) → cond b (Some i) (position_from p (i + 1) header) ≡ None
        → (position_from p (i + 1) header ≡ None → p name ≡ true
        → position_from p (i + 1) (header ++ name ∷ []) ≡ Some (i + 1 + length header))
        → cond b (Some i) (position_from p (i + 1) (header ++ name ∷ [])) ≡ Some (i + suc (length header))
    by true e rest = absurd (cc)
    by false e rest = rest e is ∙ ap Some (let same : i + 1 + length header ≡ i + suc (length header) = omega arith in same)

-- the column of the block stands within the header, or next behind it
place-within : (header : List (List ℕ)) → place_of column.BlockId header ≤ length header
place-within header = by (column_of (column_name_of column.BlockId) header) refl
  where
    by : (found : Option ℕ) → column_of (column_name_of column.BlockId) header ≡ found → unwrap_or found (length header) ≤ length header
    by None is = omega arith
    by (Some k) is = let within = (column-found (column_name_of column.BlockId) header k is).0 in omega (arith, within)

-- and there in the header that is written
place-kept : (header : List (List ℕ))
    → place_of column.BlockId (header_written (place_of column.BlockId header) header) ≡ place_of column.BlockId header
place-kept header = by (column_of (column_name_of column.BlockId) header) refl
  where
    more : List (List ℕ)
    more = header ++ column_name_of column.BlockId ∷ []

    by : (found : Option ℕ) → column_of (column_name_of column.BlockId) header ≡ found
        → place_of column.BlockId (header_written (unwrap_or found (length header)) header) ≡ unwrap_or found (length header)
    by None is =
        ap (λ b. place_of column.BlockId (cond b header (header ++ column_name_of column.BlockId ∷ [])))
        (le-ltb (length header) (length header) (omega arith))
        ∙ ap (λ found. unwrap_or found (length (header ++ column_name_of column.BlockId ∷ [])))
        (place-new (λ c. bytes_eq (without_spaces c) (column_name_of column.BlockId)) 0 header (column_name_of column.BlockId) is refl)
        ∙ (let same : 0 + length header ≡ length header = omega arith in same)
    by (Some k) is =
        ap (λ b. place_of column.BlockId (cond b header (header ++ column_name_of column.BlockId ∷ [])))
        (lt-ltb k (length header) (column-found (column_name_of column.BlockId) header k is).0)
        ∙ ap (λ found. unwrap_or found (length header)) is

-- a field that is written stands where it was written
field-written : (row : List (List ℕ)) (place : ℕ) (field : List ℕ) → place ≤ length row
    → field_at (with_field row place field) place ≡ field
field-written row place field within = ⊎_elim
    (λ (inside : place < length row). ap (λ b. get_or (cond b (set row place field) (row ++ field ∷ [])) place [])
    (lt-ltb place (length row) inside) ∙ get_or-set_same row place field [] inside)
    (λ (past : length row ≤ place).
    let none : place - place ≡ 0 = omega arith in
    ap (λ b. get_or (cond b (set row place field) (row ++ field ∷ [])) place []) (le-ltb place (length row) past)
    ∙ get_or-append_right row (field ∷ []) place place [] (omega (arith, within, past)) (omega arith)
    ∙ ap (λ n. get_or (field ∷ []) n []) none)
    (cases_lt place (length row))

module _ (trips : TableView) (standing : TimetableView) (chosen : List Bool) (blocks names : List (List ℕ)) where
  abbrev pub row_written : ℕ → List (List ℕ)
  row_written r =
      trip_written standing (block_numbers (length standing.slots) blocks) names (place_of column.TripId trips.header)
      (place_of column.BlockId trips.header) (get_or chosen r false) (get_or trips.rows r [])

  -- there are as many records
  pub count-rows : length (with_blocks trips standing chosen blocks names).rows ≡ length trips.rows
  unfolding with_blocks
  count-rows = length-map-range_with_len row_written 0 (length trips.rows)

  -- the selected records are those of before
  pub selected-same : selected (with_blocks trips standing chosen blocks names) chosen ≡ selected trips chosen
  selected-same = ap (λ n. filter (λ r. get_or chosen r false) (range_with_len 0 n)) count-rows

  -- a selected record has the block of the slot that it names
  pub written-field : IsTable trips → (r : ℕ) → r < length trips.rows → get_or chosen r false ≡ true
      → block_field (with_blocks trips standing chosen blocks names) r ≡ block_of standing (block_numbers (length standing.slots) blocks)
      names (number_of (slot_names standing) (trip_field trips r))
  unfolding with_blocks
  written-field is r within chosen_is =
      let block = place_of column.BlockId trips.header in
      ap (field_at (get_or (trips_rows trips standing chosen blocks names) r [])) (place-kept trips.header)
      ∙ ap (λ row. field_at row block) (get_or-map-range_with_len row_written 0 (length trips.rows) r r [] within (omega arith))
      ∙ field-written (get_or trips.rows r []) block _ (omega (arith, place-within trips.header, is.width r within))
      ∙ ap (λ b. cond b (block_of standing (block_numbers (length standing.slots) blocks) names
      (slot_in standing (place_of column.TripId trips.header) (get_or trips.rows r []))) (field_at (get_or trips.rows r []) block))
      chosen_is

  -- the block of a slot whose trip runs
  pub slot-block : AllRun standing → (s : ℕ) → s < length standing.slots
      → block_of standing (block_numbers (length standing.slots) blocks) names (Some s) ≡ name_of names (number_in blocks s)
  slot-block runs s within =
      ap (λ b. cond b (name_of names (get_or (block_numbers (length standing.slots) blocks) s None)) []) (runs s _ within)
      ∙ ap (name_of names) (get_or-map-range_with_len (number_in blocks) 0 (length standing.slots) s s None within (omega arith))

-- the selected records are records, and selected
selected-within : (trips : TableView) (chosen : List Bool) → All (λ r. r < length trips.rows) (selected trips chosen)
selected-within trips chosen =
    All-filter (λ r. get_or chosen r false) (λ r. r < length trips.rows) (range_with_len 0 (length trips.rows))
    (All-from_get_or (λ r. r < length trips.rows) (range_with_len 0 (length trips.rows)) 0 each)
  where
    each : (i : ℕ) → i < length (range_with_len 0 (length trips.rows))
        → get_or (range_with_len 0 (length trips.rows)) i 0 < length trips.rows
    each i within =
        let inside : i < length trips.rows = omega (arith, within, length-range_with_len 0 (length trips.rows)) in
        omega (arith, inside, get_or-range_with_len 0 (length trips.rows) i 0 inside)

pub names-are-stated : spec.NamesAreStated
names-are-stated trips standing chosen blocks names is distinct runs name =
    ext_get_or [] (stated_names (with_blocks trips standing chosen blocks names) chosen)
    (names_by_slot names blocks (length standing.slots)) count each
  where
    slots : length (selected trips chosen) ≡ length standing.slots
    slots = sym (length-map (selected trips chosen) (trip_field trips)) ∙ ap length name ∙ length-map standing.slots (λ (s : Slot). s.name)

    short : length (stated_names (with_blocks trips standing chosen blocks names) chosen) ≡ length standing.slots
    short = length-map (selected (with_blocks trips standing chosen blocks names) chosen)
        (block_field (with_blocks trips standing chosen blocks names)) ∙ ap length (selected-same trips standing chosen blocks names)
        ∙ slots

    count : length (stated_names (with_blocks trips standing chosen blocks names) chosen) ≡ length
        (names_by_slot names blocks (length standing.slots))
    count = short ∙ sym (length-map-range_with_len (λ s. name_of names (number_in blocks s)) 0 (length standing.slots))

    each : (s : ℕ) → s < length (stated_names (with_blocks trips standing chosen blocks names) chosen)
        → get_or (stated_names (with_blocks trips standing chosen blocks names) chosen) s [] ≡ get_or
        (names_by_slot names blocks (length standing.slots)) s []
    each s lt =
        let within : s < length standing.slots = omega (arith, lt, short) in
        let inside : s < length (selected trips chosen) = omega (arith, within, slots) in
        let r = get_or (selected trips chosen) s 0 in
        let named : trip_field trips r ≡ get_or (slot_names standing) s [] =
        sym (get_or-map (trip_field trips) (selected trips chosen) s 0 [] inside) ∙ ap (λ found. get_or found s []) name in
        let some : s < length (slot_names standing) = omega (arith, within, length-map standing.slots (λ (s : Slot). s.name)) in
        ap (λ rs. get_or (map (block_field (with_blocks trips standing chosen blocks names)) rs) s [])
        (selected-same trips standing chosen blocks names)
        ∙ get_or-map (block_field (with_blocks trips standing chosen blocks names)) (selected trips chosen) s 0 [] inside
        ∙ written-field trips standing chosen blocks names is r (selected-within trips chosen s 0 inside)
        (filter_passes (λ r. get_or chosen r false) (range_with_len 0 (length trips.rows)) s 0 inside)
        ∙ ap (λ name. block_of standing (block_numbers (length standing.slots) blocks) names (number_of (slot_names standing) name)) named
        ∙ ap (block_of standing (block_numbers (length standing.slots) blocks) names)
        (number-distinct (slot_names standing) s distinct some)
        ∙ slot-block trips standing chosen blocks names runs s within
        ∙ sym (get_or-map-range_with_len (λ s. name_of names (number_in blocks s)) 0 (length standing.slots) s s [] within (omega arith))
