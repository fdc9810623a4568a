-- A timetable in which all trips of a feed run and no others, and which records of `trips.txt` are those of its slots.
use Rattle.std.specs.Prelude.{◌≡◌, ℕ, Bool, true, List, length, map, slice_index_or, [], All, Ok}
use Rattle.std.specs.List.{range_with_len}
use Rattle.csv.specs.Reading.{strip_bom}
use Rattle.desk_io.specs.declared.shelf.Found.TheVariants.{File}
use Rattle.gtfs_tables.specs.Table.{TableView, IsTable, table_of}
use Rattle.gtfs_tables.specs.declared.paper.Column.TheVariants as column
use Rattle.gtfs_tables.specs.Reading.{field_at, place_of}
use Rattle.desk_settings.specs.Selected.{selected}
use Rattle.desk_settings.specs.Settings.{SettingsView}
use Rattle.trip_model.specs.Timetable.{TimetableView, slot_names}
use Rattle.feed_read.specs.Base.{base_of}
use Rattle.block_writer.specs.StopTimes.{stop_times_written}
use Rattle.block_writer.specs.Trips.{name_of, number_in, trips_written}
use Rattle.written_laws.specs.Follows.{IsEditedFrom}
use Rattle.written_laws.specs.Written.{AreWritable}

-- each trip of a timetable runs
abbrev pub AllRun : TimetableView → Type 0
AllRun timetable = All (λ slot. slot.trip.live ≡ true) timetable.slots

-- a timetable follows that of a feed, without an extra and with no trip cancelled
pub record IsWhole (base standing : TimetableView) : Type 0 where
  pub follows : IsEditedFrom base standing
  pub no_extras : length standing.slots ≡ length base.slots
  pub runs : AllRun standing

-- the `trip_id` of a record
abbrev pub trip_field : TableView → ℕ → List ℕ
trip_field trips r = field_at (slice_index_or trips.rows r []) (place_of column.TripId trips.header)

-- the selected records name the trips of the slots, the n-th that of the n-th slot
abbrev pub NameSlots : TableView → List Bool → TimetableView → Type 0
NameSlots trips chosen timetable = map (trip_field trips) (selected trips chosen) ≡ slot_names timetable

-- for each of so many slots the name of its block
abbrev pub names_by_slot : List (List ℕ) → List (List ℕ) → ℕ → List (List ℕ)
names_by_slot names blocks slots = map (λ s. name_of names (number_in blocks s)) (range_with_len 0 slots)

-- two files are tables, and with these settings they are read as the timetable of a feed
pub record IsFeed (settings : SettingsView) (trips_bytes stop_times_bytes : List ℕ) (trips stop_times : TableView)
    (base : TimetableView) : Type 0 where
  pub trips_are : table_of trips_bytes ≡ Ok trips
  pub stop_times_are : table_of stop_times_bytes ≡ Ok stop_times
  pub trips_table : IsTable trips
  pub stop_times_table : IsTable stop_times
  pub read : base_of settings (File trips_bytes) (File stop_times_bytes) ≡ Ok base

-- the files of blocks can be read again: no time is moved to 100:00:00 or later, and none begins with a byte-order mark
pub record AreReadable (trips stop_times : TableView) (standing : TimetableView) (base : ℕ) (chosen : List Bool)
    (blocks names : List (List ℕ)) : Type 0 where
  pub times : AreWritable stop_times standing base
  pub trips_unmarked : strip_bom (trips_written trips standing chosen blocks names) ≡ trips_written trips standing chosen blocks names
  pub stop_times_unmarked : strip_bom (stop_times_written stop_times standing base) ≡ stop_times_written stop_times standing base
