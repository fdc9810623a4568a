-- How the links of a feed's trips are liked.
use Rattle.std.specs.Prelude.{ℕ, List, [], length, map, Option, Result, Ok, Err, if◌then◌else◌}
use Rattle.std.specs.List.{range_with_len}
use Rattle.gtfs_tables.specs.Reading.{table_in}
use Rattle.gtfs_tables.specs.Table.{TableView}
use Rattle.gtfs_tables.specs.declared.fault.FeedFault.{FeedFault}
use Rattle.gtfs_tables.specs.declared.paper.Column.TheVariants as column
use Rattle.gtfs_tables.specs.declared.paper.Paper.TheVariants as paper
use Rattle.desk_settings.specs.Prefer.{has}
use Rattle.desk_settings.specs.Selected.{chosen_in, selected_fields}
use Rattle.desk_settings.specs.Settings.{SettingsView}
use Rattle.desk_settings.specs.declared.prefer.Preference.{Preference}
use Rattle.desk_settings.specs.declared.prefer.Preference.TheVariants.{Stated, Line, Waiting}
use Rattle.trip_model.specs.Order.{by_departure}
use Rattle.trip_model.specs.Plain.{trip_moves}
use Rattle.trip_model.specs.Timetable.{TimetableView}
use Rattle.plan_choice.specs.Likings.{LikingsView, nothing_liked}
use Rattle.desk_run.specs.Reading.{ReadView, found_of}
use Rattle.feed_likings.specs.Alike.{first_alike, stated_next}
use Rattle.feed_likings.specs.Units.{unit_of}

-- the next trips of all slots in their stated blocks, by the `block_id` of the slots
abbrev pub nexts_by : List (List ℕ) → TimetableView → List (Option ℕ)
nexts_by names timetable =
    map (stated_next names (by_departure (trip_moves timetable.slots))) (range_with_len 0 (length timetable.slots))

-- rule: which trips are of one line
-- the lines of all slots, by the `route_id` of the slots. The number of a line is that of its first slot
abbrev pub lines_by : List (List ℕ) → TimetableView → List (Option ℕ)
lines_by routes timetable = map (first_alike routes) (range_with_len 0 (length timetable.slots))

-- a list for a preference, which is empty where that is none of them: it counts 0 then
abbrev pub if_preferred : Preference → List Preference → List (Option ℕ) → List (Option ℕ)
if_preferred p order entries = if has p order then entries else []

-- rule: what a link is liked by
-- How links are liked by the settings, a table of trips and the timetable that was read of it. A column that is not there has
-- empty fields, so no link is liked by it. Fields are compared by their bytes.
abbrev pub likings_of : SettingsView → TableView → TimetableView → LikingsView
likings_of settings trips timetable =
    let chosen = chosen_in settings trips in
    record {
      stated = unit_of Stated settings.prefer;
      line = unit_of Line settings.prefer;
      waiting = unit_of Waiting settings.prefer;
      nexts = if_preferred Stated settings.prefer (nexts_by (selected_fields column.BlockId trips chosen) timetable);
      lines = if_preferred Line settings.prefer (lines_by (selected_fields column.RouteId trips chosen) timetable);
    }

-- by a table of trips, if there is one; an accepted feed has it
abbrev pub likings_by : SettingsView → TimetableView → Result TableView FeedFault → LikingsView
likings_by settings timetable (Ok trips) = likings_of settings trips timetable
likings_by settings timetable (Err refused) = nothing_liked

-- how links are liked by what was read
abbrev pub likings_in : ReadView → SettingsView → TimetableView → LikingsView
likings_in read settings timetable = likings_by settings timetable (table_in paper.Trips (found_of read.pages paper.Trips))
