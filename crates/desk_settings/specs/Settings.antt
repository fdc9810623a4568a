-- The settings of a desk, read from three files, and what they answer.
use Rattle.std.specs.Prelude.{ℕ, ◌==◌, Bool, true, not, List, [], length, Option, None, Some, Result, Ok, unwrap_or}
use Rattle.desk_io.specs.declared.shelf.Found.{Found}
use Rattle.gtfs_tables.specs.declared.fault.FeedFault.{FeedFault}
use Rattle.gtfs_tables.specs.Reading.{◌>>=◌}
use Rattle.gtfs_tables.specs.Entries.{Name, Entries, value_of}
use Rattle.desk_settings.specs.Names.{each_once, is_among, kept_among}
use Rattle.desk_settings.specs.Desk.{desk_of}
use Rattle.desk_settings.specs.Terminals.{terminals_of}
use Rattle.desk_settings.specs.Tolerances.{tolerances_of}
use Rattle.desk_settings.specs.declared.desk.DeskTable.{DeskTable}
use Rattle.desk_settings.specs.declared.prefer.Preference.{Preference}

-- the services that are selected, None where all are; the date whose services are selected, if there is one; the classes of
-- routes. Then the minutes of layover, and those of places; the minutes of tolerance; the prefix of block names, and whether
-- blocks keep the names that the feed states. Then what is preferred among plans that are equally good, and last the terminals
-- of stops, and the tolerances of trips, early before late
pub record SettingsView : Type 0 where
  pub services : Option (List (List ℕ))
  pub date : Option ℕ
  pub classes : Entries Name
  pub layover : ℕ
  pub layovers : Entries ℕ
  pub early : ℕ
  pub late : ℕ
  pub prefix : List ℕ
  pub keeps_names : Bool
  pub prefer : List Preference
  pub terminals : Entries Name
  pub tolerances : Entries (ℕ × ℕ)

-- the settings of a desk with its terminals and tolerances
abbrev pub settings_with : DeskTable → Entries Name → Entries (ℕ × ℕ) → SettingsView
settings_with desk terminals tolerances = record {
  services = desk.services;
  date = desk.date;
  classes = desk.classes;
  layover = desk.layover;
  layovers = desk.layovers;
  early = desk.early;
  late = desk.late;
  prefix = desk.prefix;
  keeps_names = desk.keeps_names;
  prefer = desk.prefer;
  terminals = terminals;
  tolerances = tolerances;
}

-- the settings of a desk with what `terminals.csv` and `tolerances.csv` say, judged in this order
abbrev pub with_tables : Found → Found → DeskTable → Result SettingsView FeedFault
with_tables terminals_found tolerances_found desk = do
  terminals ← terminals_of terminals_found
  tolerances ← tolerances_of tolerances_found
  Ok (settings_with desk terminals tolerances)

-- the settings of `desk.toml`, and then of the two tables
unfoldable pub settings_of : Found → Found → Found → Result SettingsView FeedFault
settings_of desk_found terminals_found tolerances_found = desk_of desk_found >>= with_tables terminals_found tolerances_found

-- whether a service is one of those named
abbrev pub is_in : Option (List Name) → Name → Bool
is_in None service = true
is_in (Some services) service = is_among service services

-- whether the trips of a service are selected
abbrev pub is_chosen : SettingsView → Name → Bool
is_chosen settings service = is_in settings.services service

-- the services that are selected of those that run: those of a list that are among them, or all of them, each once
abbrev pub kept_services : Option (List Name) → List Name → List Name
kept_services None running = each_once running
kept_services (Some services) running = kept_among (each_once running) services

-- the settings where the services that run are these
abbrev pub with_services_kept : SettingsView → List Name → SettingsView
with_services_kept settings running = record settings { services = Some (kept_services settings.services running) }

-- whether vehicles are of classes
abbrev pub is_classed : SettingsView → Bool
is_classed settings = not (length settings.classes == 0)

-- rule: the vehicle class of a trip
-- the class of the trips of a route; that of a trip without a route is empty
abbrev pub class_of : SettingsView → Name → Name
class_of settings [] = []
class_of settings route = unwrap_or (value_of route settings.classes) []

-- rule: the layover of a terminal
-- the layover of a place
abbrev pub layover_at : SettingsView → Name → ℕ
layover_at settings place = unwrap_or (value_of place settings.layovers) settings.layover

-- rule: the terminal of a stop
-- the terminal of a stop
abbrev pub terminal_of : SettingsView → Name → Name
terminal_of settings stop = unwrap_or (value_of stop settings.terminals) stop

-- rule: the tolerances of a trip
-- the tolerances of a trip, early before late
abbrev pub tolerance_of : SettingsView → Name → ℕ × ℕ
tolerance_of settings trip = unwrap_or (value_of trip settings.tolerances) (settings.early, settings.late)
