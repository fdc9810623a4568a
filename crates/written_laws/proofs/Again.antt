-- What is read of the written feed states the blocks of the plan.
use Rattle.std.proofs.Common.{◌≡◌, ℕ, ◌<◌, Bool, false, List, [], length, get_or, map, Result, Ok, refl, sym, ap, subst, ◌∙◌, arith}
use Rattle.std.specs.List.{range_with_len}
use Rattle.std.proofs.lemmas.List.{get_or-map}
use Rattle.std.proofs.lemmas.List.Elements.{All-from_get_or}
use Rattle.std.proofs.lemmas.List.FromFn.{get_or-map-range_with_len, get_or-range_with_len, length-range_with_len}
use Rattle.desk_io.specs.declared.shelf.Found.TheVariants.{File}
use Rattle.gtfs_tables.specs.declared.paper.Column.TheVariants as column
use Rattle.gtfs_tables.specs.declared.table.TableFault.{TableFault}
use Rattle.gtfs_tables.specs.Table.{TableView, IsTable}
use Rattle.gtfs_tables.specs.Reading.{field_at, place_of}
use Rattle.desk_settings.specs.Selected.{chosen_in, is_selected, is_text_chosen, selected}
use Rattle.desk_settings.specs.Settings.{SettingsView}
use Rattle.trip_model.specs.Links.{blocks_along}
use Rattle.trip_model.specs.Order.{by_departure}
use Rattle.trip_model.specs.Plain.{trip_moves}
use Rattle.trip_model.specs.Timetable.{TimetableView}
use Rattle.deadhead_matrix.specs.Matrix.{MatrixView}
use Rattle.block_writer.specs.Trips.{header_written, trips_rows, with_blocks}
use Rattle.block_writer.proofs.ReadAgain as writer
use Rattle.block_audit.specs.Stated.{blocks_by, block_field, stated_in}
use Rattle.claim_files.proofs.EachRecord.{same_Ok}
use Rattle.written_laws.specs.Written.{as_written}
use Rattle.written_laws.proofs.Edits.{standing-follows}
use Rattle.written_laws.proofs.ReadBack.{base-forward, written-back}
use Rattle.written_laws.proofs.Trips.{asked-field, asked-kept}
use Rattle.written_laws.specs.Found.{AreOfPlan, StatesPlan}
use Rattle.written_laws.specs.PlanLaws as spec
use Rattle.written_laws.specs.Planned.{NameSlots}
use Rattle.written_laws.proofs.Chosen.{HasServices, feed-names-slots, feed-services, of-feed, place-asked, service_field}
use Rattle.written_laws.proofs.Grouped.{filter-same}
use Rattle.written_laws.proofs.Moves.{names-kept}
use Rattle.written_laws.proofs.Named.{count-rows, row_written}
use Rattle.written_laws.proofs.Stated.{Clock, least-are-stated}

module _ (trips : TableView) (standing : TimetableView) (chosen : List Bool) (blocks names : List (List ℕ)) where
  -- the service of each record is that of before
  service-kept : IsTable trips → HasServices trips → (r : ℕ) → r < length trips.rows
      → service_field (with_blocks trips standing chosen blocks names) r ≡ service_field trips r
  unfolding with_blocks
  service-kept is has r within =
      let row = get_or trips.rows r [] in
      let there = asked-kept column.ServiceId (place_of column.BlockId trips.header) trips.header has.place has.asked in
      ap (field_at (get_or (trips_rows trips standing chosen blocks names) r []))
      (sym (place-asked column.ServiceId (header_written (place_of column.BlockId trips.header) trips.header) has.place there))
      ∙ ap (λ row. field_at row has.place)
      (get_or-map-range_with_len (row_written trips standing chosen blocks names) 0 (length trips.rows) r r [] within (omega arith))
      ∙ asked-field trips.header row _ (is.width r within) column.ServiceId has.place refl has.asked
      ∙ ap (field_at row) has.at

  -- so the selected records are those that were selected
  chosen-again : (settings : SettingsView) → IsTable trips → HasServices trips
      → (r : ℕ) → r < length trips.rows
      → get_or (chosen_in settings (with_blocks trips standing chosen blocks names)) r false ≡ get_or (chosen_in settings trips) r
      false
  chosen-again settings is has r within =
      let written = with_blocks trips standing chosen blocks names in
      get_or-map (is_selected settings (place_of column.ServiceId written.header)) written.rows r [] false
      (omega (arith, within, count-rows trips standing chosen blocks names))
      ∙ ap (is_text_chosen settings) (service-kept is has r within)
      ∙ sym (get_or-map (is_selected settings (place_of column.ServiceId trips.header)) trips.rows r [] false within)

  selected-again : (again : List Bool) → ((r : ℕ) → r < length trips.rows → get_or again r false ≡ get_or chosen r false)
      → selected (with_blocks trips standing chosen blocks names) again ≡ selected (with_blocks trips standing chosen blocks names) chosen
  selected-again again same =
      filter-same (λ r. get_or again r false) (λ r. get_or chosen r false)
      (range_with_len 0 (length (with_blocks trips standing chosen blocks names).rows))
      (All-from_get_or (λ r. get_or again r false ≡ get_or chosen r false)
      (range_with_len 0 (length (with_blocks trips standing chosen blocks names).rows)) 0 each)
    where
      each : (i : ℕ) → i < length (range_with_len 0 (length (with_blocks trips standing chosen blocks names).rows))
          → get_or again (get_or (range_with_len 0 (length (with_blocks trips standing chosen blocks names).rows)) i 0) false ≡ get_or
          chosen (get_or (range_with_len 0 (length (with_blocks trips standing chosen blocks names).rows)) i 0) false
      each i within =
          let rows = length (with_blocks trips standing chosen blocks names).rows in
          let inside : i < length (with_blocks trips standing chosen blocks names).rows =
          omega (arith, within, length-range_with_len 0 (length (with_blocks trips standing chosen blocks names).rows)) in
          same (get_or (range_with_len 0 (length (with_blocks trips standing chosen blocks names).rows)) i 0)
          (omega (
            arith,
            inside,
            count-rows trips standing chosen blocks names,
            get_or-range_with_len 0
                (length (with_blocks trips standing chosen blocks names).rows) i 0 inside,
          ))

  stated-again : (timetable : TimetableView) (again : List Bool)
      → ((r : ℕ) → r < length trips.rows → get_or again r false ≡ get_or chosen r false)
      → stated_in (with_blocks trips standing chosen blocks names) timetable again ≡ stated_in
      (with_blocks trips standing chosen blocks names) timetable chosen
  stated-again timetable again same =
      ap (λ rs. blocks_by (map (block_field (with_blocks trips standing chosen blocks names)) rs)
      (by_departure (trip_moves timetable.slots))) (selected-again again same)

same-table : (x y : TableView) → ◌≡◌ {A = Result TableView TableFault} (Ok x) (Ok y) → x ≡ y
same-table x y e = cc

-- a plan that a table states is stated also where the same records are selected
said-again : (trips : TableView) (timetable : TimetableView) (chosen again : List Bool) (matrix : MatrixView)
    (names blocks : List (List ℕ))
    → ((r : ℕ) → r < length trips.rows → get_or again r false ≡ get_or chosen r false)
    → stated_in trips timetable again ≡ stated_in trips timetable chosen
    → StatesPlan trips timetable chosen matrix names blocks → StatesPlan trips timetable again matrix names blocks
said-again trips timetable chosen again matrix names blocks same stated states = record {
  text = λ r within is. states.text r within (sym (same r within) ∙ is);
  stated = subst (AreOfPlan timetable matrix names blocks) (sym stated) states.stated;
}

pub written-states-plan : Clock → spec.WrittenFeedStatesPlan
written-states-plan clock settings trips_bytes stop_times_bytes trips stop_times base standing matrix next names feed valid whole readable
    least given trips_again base_again trips_read base_read =
    let chosen = chosen_in settings trips in
    let blocks = blocks_along next (by_departure (trip_moves standing.slots)) in
    let written = with_blocks trips standing chosen blocks names in
    let timetable = as_written base standing in
    let table : written ≡ trips_again =
    same-table _ trips_again (sym (writer.trips-back trips standing chosen blocks names feed.trips_table readable.trips_unmarked)
    ∙ trips_read) in
    let same : timetable ≡ base_again = same_Ok _ base_again (sym
    (written-back settings trips_bytes stop_times_bytes trips stop_times base standing chosen blocks names feed.trips_are
    feed.stop_times_are feed.trips_table feed.stop_times_table feed.read whole.follows readable.times
    readable.trips_unmarked readable.stop_times_unmarked)
    ∙ base_read) in
    let has = feed-services settings trips_bytes (File stop_times_bytes) trips base feed.trips_are feed.read in
    let published = (of-feed settings (File trips_bytes) (File stop_times_bytes) base feed.read).runs in
    let name : NameSlots trips chosen standing =
    feed-names-slots settings trips_bytes (File stop_times_bytes) trips base feed.trips_are feed.read
    ∙ names-kept base standing whole.follows whole.no_extras in
    let again = chosen_in settings written in
    let agree = chosen-again trips standing chosen blocks names settings feed.trips_table has in
    let states = said-again written timetable chosen again matrix names blocks
    (λ r within. agree r (omega (arith, within, count-rows trips standing chosen blocks names)))
    (stated-again trips standing chosen blocks names timetable again agree)
    (least-are-stated clock trips base standing chosen matrix next names feed.trips_table valid published whole name least given) in
    subst (λ t. StatesPlan trips_again t (chosen_in settings trips_again) matrix names blocks) same
    (subst (λ w. StatesPlan w timetable (chosen_in settings w) matrix names blocks) table states)

pub script-leaves-whole : spec.ScriptLeavesWhole
script-leaves-whole settings trips_found stop_times_found base records said count runs = record {
  follows = standing-follows base records (base-forward settings trips_found stop_times_found base said);
  no_extras = count;
  runs = runs;
}
