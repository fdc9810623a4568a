-- What is written of a feed states the blocks that were planned.
use Rattle.std.specs.Prelude.{◌≡◌, ℕ, Bool, List, Option, length, Ok}
use Rattle.desk_io.specs.declared.shelf.Found.{Found}
use Rattle.desk_io.specs.declared.shelf.Found.TheVariants.{File}
use Rattle.gtfs_tables.specs.Table.{TableView, IsTable, table_of}
use Rattle.desk_settings.specs.Selected.{chosen_in}
use Rattle.desk_settings.specs.Settings.{SettingsView}
use Rattle.trip_model.specs.Blocking.{IsBlocking, IsLeast}
use Rattle.trip_model.specs.Links.{blocks_along}
use Rattle.trip_model.specs.Order.{by_departure}
use Rattle.trip_model.specs.Plain.{trip_moves}
use Rattle.trip_model.specs.Timetable.{TimetableView, AreDistinct, IsTimetable, slot_names}
use Rattle.edit_script.specs.Machine.{Numbered, machine, timetable_at}
use Rattle.feed_read.specs.Base.{base_of}
use Rattle.deadhead_matrix.specs.Matrix.{MatrixView}
use Rattle.deadhead_matrix.specs.Fitting.{network_of}
use Rattle.block_build.specs.Names.{AreBlockNames}
use Rattle.block_writer.specs.StopTimes.{stop_times_written}
use Rattle.block_writer.specs.Trips.{trips_written, with_blocks}
use Rattle.block_audit.specs.Stated.{slots_by, stated_in, stated_names}
use Rattle.written_laws.specs.Written.{as_written}
use Rattle.written_laws.specs.Found.{StatesPlan}
use Rattle.written_laws.specs.Planned.{AllRun, AreReadable, IsFeed, IsWhole, NameSlots, names_by_slot}

-- the trips of the timetable that is written make the moves of those that stand
abbrev pub SameMoves : Type 0
SameMoves = (base standing : TimetableView) → AllRun base → IsWhole base standing
    → trip_moves (as_written base standing).slots ≡ trip_moves standing.slots

-- so blocks that are least over a matrix and the timetable that stands are least over it and the timetable that is written
abbrev pub LeastAgain : Type 0
LeastAgain =
    (base standing : TimetableView) (matrix : MatrixView) (blocks : List (List ℕ))
    → AllRun base
    → IsWhole base standing
    → IsLeast (network_of standing matrix) blocks
    → IsLeast (network_of (as_written base standing) matrix) blocks

-- where all trips run, the `block_id` of the n-th selected record that is written is the name of the block of slot n
abbrev pub NamesAreStated : Type 0
NamesAreStated =
    (trips : TableView) (timetable : TimetableView) (chosen : List Bool) (blocks names : List (List ℕ))
    → IsTable trips
    → AreDistinct (slot_names timetable)
    → AllRun timetable
    → NameSlots trips chosen timetable
    → stated_names (with_blocks trips timetable chosen blocks names) chosen ≡ names_by_slot names blocks (length timetable.slots)

-- Let the plan's blocks be a blocking of the timetable that stands, along links from slot to slot. Let none of their names be
-- empty, and no two the same. Then the written table states these blocks, in their order and each with its trips in their order.
abbrev pub BlocksAreStated : Type 0
BlocksAreStated =
    (trips : TableView) (base standing : TimetableView) (chosen : List Bool) (matrix : MatrixView) (next : List (Option ℕ))
    (names : List (List ℕ))
    → IsTable trips
    → IsTimetable standing
    → AllRun base
    → IsWhole base standing
    → NameSlots trips chosen standing
    → let blocks = blocks_along next (by_departure (trip_moves standing.slots)) in
    IsBlocking (network_of standing matrix) blocks
    → AreBlockNames (length blocks) names
    → slots_by (stated_in (with_blocks trips standing chosen blocks names) (as_written base standing) chosen) ≡ blocks

-- so where the plan's blocks are least, the written table states the plan
abbrev pub LeastAreStated : Type 0
LeastAreStated =
    (trips : TableView) (base standing : TimetableView) (chosen : List Bool) (matrix : MatrixView) (next : List (Option ℕ))
    (names : List (List ℕ))
    → IsTable trips
    → IsTimetable standing
    → AllRun base
    → IsWhole base standing
    → NameSlots trips chosen standing
    → let blocks = blocks_along next (by_departure (trip_moves standing.slots)) in
    IsLeast (network_of standing matrix) blocks
    → AreBlockNames (length blocks) names
    → StatesPlan (with_blocks trips standing chosen blocks names) (as_written base standing) chosen matrix names blocks

-- the selected records of a feed name the trips of its slots, each in its turn
abbrev pub FeedNamesSlots : Type 0
FeedNamesSlots =
    (settings : SettingsView) (trips_bytes : List ℕ) (stop_times : Found) (trips : TableView) (base : TimetableView)
    → table_of trips_bytes ≡ Ok trips
    → base_of settings (File trips_bytes) stop_times ≡ Ok base
    → NameSlots trips (chosen_in settings trips) base

-- Let no trip of a feed be cancelled and none added, and let the blocks of a plan be least. Let none of their names be empty,
-- and no two the same. The two texts that are written of it, read again with the same settings, state this plan.
abbrev pub WrittenFeedStatesPlan : Type 0
WrittenFeedStatesPlan =
    (settings : SettingsView) (trips_bytes stop_times_bytes : List ℕ) (trips stop_times : TableView) (base standing : TimetableView)
    (matrix : MatrixView) (next : List (Option ℕ)) (names : List (List ℕ))
    → IsFeed settings trips_bytes stop_times_bytes trips stop_times base
    → IsTimetable standing
    → IsWhole base standing
    → let blocks = blocks_along next (by_departure (trip_moves standing.slots)) in
    let chosen = chosen_in settings trips in
    let trips_text = trips_written trips standing chosen blocks names in
    let stop_times_text = stop_times_written stop_times standing (length base.slots) in
    AreReadable trips stop_times standing (length base.slots) chosen blocks names
    → IsLeast (network_of standing matrix) blocks
    → AreBlockNames (length blocks) names
    → (trips_again : TableView) (base_again : TimetableView)
    → table_of trips_text ≡ Ok trips_again
    → base_of settings (File trips_text) (File stop_times_text) ≡ Ok base_again
    → StatesPlan trips_again base_again (chosen_in settings trips_again) matrix names blocks

-- what stands after a script over a feed is whole where the script leaves as many trips, and all of them run
abbrev pub ScriptLeavesWhole : Type 0
ScriptLeavesWhole =
    (settings : SettingsView) (trips_found stop_times_found : Found) (base : TimetableView) (records : List Numbered)
    → base_of settings trips_found stop_times_found ≡ Ok base
    → let standing = timetable_at base (machine base records) in
    length standing.slots ≡ length base.slots
    → AllRun standing
    → IsWhole base standing
