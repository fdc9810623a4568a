-- The parts of what `write` does: terms of the functions inside.
use Rattle.std.specs.Prelude.{◌≡◌, ◌⊎◌, ℕ, List, ◌++◌, length, None, Result}
use Rattle.gtfs_tables.specs.Table.{TableView}
use Rattle.gtfs_tables.specs.declared.fault.FeedFault.{FeedFault}
use Rattle.gtfs_tables.specs.declared.paper.Paper.TheVariants as paper
use Rattle.desk_settings.specs.Settings.{SettingsView}
use Rattle.trip_model.specs.Timetable.{TimetableView}
use Rattle.block_build.specs.Names.{AreBlockNames}
use Rattle.block_names.specs.Names.{NamingView, names_of}
use Rattle.block_writer.specs.StopTimes.{stop_time_columns, stop_times_written}
use Rattle.block_writer.specs.Texts.{IsTextPaper}
use Rattle.desk_run.specs.Outcome.{OutcomeView}
use Rattle.feed_desk.specs.declared.draw.Drawn.{Drawn}
use Rattle.write_command.specs.Write.{IsRefusal, files_of, trip_columns, written_line}
use Rattle.write_command.specs.declared.write.Writable.{Writable}
use Rattle.write_command.specs.declared.write.Writable.TheVariants.{Texts, Refused}

-- two papers may be written where both are tables of texts. The second is the text for a timetable whose first so many slots
-- have records. Else the first refusal is put
abbrev pub IsWritable : SettingsView → TimetableView → ℕ → Result TableView FeedFault → Result TableView FeedFault → Writable → Type 0
IsWritable settings timetable base trips stop_times (Texts table text) =
    IsTextPaper (λ first. first ≡ table) trips × IsTextPaper (λ second. text ≡ stop_times_written second timetable base) stop_times
IsWritable settings timetable base trips stop_times (Refused outcome) =
    IsRefusal paper.Trips (trip_columns settings) trips outcome
    ⊎ IsTextPaper (λ first. IsRefusal paper.StopTimes stop_time_columns stop_times outcome) trips

-- the outcome of the plan after a script, whose blocks can be told apart by their names
pub record IsWrittenOf {D : Type 0} (settings : SettingsView) (naming : NamingView) (drawn : Drawn D) (trips : TableView) (stop_times : List ℕ)
    (outcome : OutcomeView) : Type 0 where
  pub named : AreBlockNames (length drawn.blocks) (names_of naming drawn.blocks)
  pub done : outcome ≡ record {
    writes = files_of settings drawn.desk.script.timetable drawn.blocks (names_of naming drawn.blocks) trips stop_times;
    lines = None;
    text = drawn.refused ++ written_line;
    ending = drawn.ending;
  }
