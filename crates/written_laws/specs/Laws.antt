-- What is written of a feed reads back as its timetable.
use Rattle.std.specs.Prelude.{◌≡◌, Bool, List, length, ℕ, Ok}
use Rattle.csv.specs.Reading.{strip_bom}
use Rattle.desk_io.specs.declared.shelf.Found.TheVariants.{File}
use Rattle.gtfs_tables.specs.Table.{TableView, IsTable, table_of}
use Rattle.desk_settings.specs.Settings.{SettingsView}
use Rattle.trip_model.specs.Timetable.{TimetableView, IsTimetable}
use Rattle.edit_script.specs.Machine.{Numbered, machine, timetable_at}
use Rattle.feed_read.specs.Base.{base_of}
use Rattle.block_writer.specs.StopTimes.{stop_times_written}
use Rattle.block_writer.specs.Trips.{trips_written}
use Rattle.written_laws.specs.Follows.{AreForward, IsEditedFrom}
use Rattle.written_laws.specs.Written.{AreEarly, AreWritable, as_written}

-- The two files are written of a timetable which follows that of a feed. They read as the timetable of the feed, with its trips
-- at their minutes in the one that follows. It is required that neither file begins with a byte-order mark and no time is moved
-- to 100:00:00 or later. So it is whichever records are selected, and whatever the blocks and their names are.
abbrev pub WrittenFeedReadsBack : Type 0
WrittenFeedReadsBack =
    (settings : SettingsView) (trips_bytes stop_times_bytes : List ℕ) (trips stop_times : TableView) (base standing : TimetableView)
    (chosen : List Bool) (blocks names : List (List ℕ))
    → table_of trips_bytes ≡ Ok trips
    → table_of stop_times_bytes ≡ Ok stop_times
    → IsTable trips
    → IsTable stop_times
    → base_of settings (File trips_bytes) (File stop_times_bytes) ≡ Ok base
    → IsEditedFrom base standing
    → AreWritable stop_times standing (length base.slots)
    → strip_bom (trips_written trips standing chosen blocks names) ≡ trips_written trips standing chosen blocks names
    → strip_bom (stop_times_written stop_times standing (length base.slots)) ≡ stop_times_written stop_times standing (length base.slots)
    → base_of settings (File (trips_written trips standing chosen blocks names))
    (File (stop_times_written stop_times standing (length base.slots))) ≡ Ok (as_written base standing)

-- what stands after a script over a timetable whose trips end after they depart follows it
abbrev pub StandingFollows : Type 0
StandingFollows = (base : TimetableView) (records : List Numbered) → AreForward base
    → IsEditedFrom base (timetable_at base (machine base records))

-- times before 99:00:00 can be written wherever their trips stand, since no trip is moved by more than an hour
abbrev pub EarlyTimesAreWritable : Type 0
EarlyTimesAreWritable = (table : TableView) (standing : TimetableView) (base : ℕ) → IsTimetable standing → AreEarly table
    → AreWritable table standing base
