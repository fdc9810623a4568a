-- From the papers of a feed to its settings, its timetable, its deadheads, its depot, its rules of pairs and its script, or the first
-- refusal.
use Rattle.std.specs.Prelude.{◌≡◌, ℕ, List, [], ◌∷◌, length, Option, None, Some, Result, Ok}
use Rattle.std.specs.List.{AllByRecursion}
use Rattle.desk_io.specs.declared.shelf.Found.{Found}
use Rattle.gtfs_tables.specs.declared.fault.FeedFault.{FeedFault}
use Rattle.gtfs_tables.specs.declared.paper.Paper.{Paper}
use Rattle.gtfs_tables.specs.declared.paper.Paper.TheVariants as paper
use Rattle.gtfs_tables.specs.Reading.{◌>>=◌, optional_in}
use Rattle.desk_settings.specs.Settings.{SettingsView, settings_of, with_services_kept}
use Rattle.service_days.specs.Services.{services_running}
use Rattle.edit_script.specs.Forms.{script_of}
use Rattle.edit_script.specs.declared.edit.Line.{Line}
use Rattle.trip_model.specs.Timetable.{TimetableView}
use Rattle.pair_rules.specs.Reading.{rules_of}
use Rattle.pair_rules.specs.Rules.{PairRule}
use Rattle.feed_read.specs.Base.{base_of}
use Rattle.deadhead_matrix.specs.declared.entry.Entry.{Entry}
use Rattle.deadhead_matrix.specs.declared.pulls.Pull.{Pull}
use Rattle.deadhead_matrix.specs.Deadheads.{deadheads_of}
use Rattle.deadhead_matrix.specs.Depot.{pulls_of}
use Rattle.desk_run.specs.Reading.{IsAmong, papers_of}
use Rattle.desk_run.specs.declared.reading.Page.{Page}
use Rattle.desk_feed.specs.Edited.{standing_after}
use Rattle.desk_feed.specs.declared.feed.Feed.{Feed}

-- word: paper; page = input file; the same with what was found
-- the papers of a feed, in the order in which they are read and judged
abbrev pub feed_papers : List Paper
feed_papers = paper.Settings ∷ paper.Terminals ∷ paper.Tolerances ∷ paper.Calendar ∷ paper.CalendarDates ∷ paper.Trips ∷ paper.StopTimes
    ∷ paper.Deadheads ∷ paper.Depot ∷ paper.Pairs ∷ paper.Edits ∷ []

-- what the papers of a feed say. The settings, where there is a date with the services alone that run on it. The base
-- timetable, the lines of the script, the entries of the deadheads, the pulls of each place, and the rules of pairs
pub record FeedView : Type 0 where
  pub settings : SettingsView
  pub base : TimetableView
  pub lines : List Line
  pub entries : List Entry
  pub pulls : List Pull
  pub rules : List PairRule

-- rule: the services of a date in the settings
-- the settings where there is no date; where there is one, those in which the services are kept that run on it
abbrev pub kept_on : Found → Found → SettingsView → Option ℕ → Result SettingsView FeedFault
kept_on calendar dates settings None = Ok settings
kept_on calendar dates settings (Some date) = services_running date calendar dates >>= λ running. Ok (with_services_kept settings running)

-- each part of a feed, of what was found of its papers
abbrev pub selection_in : (Paper → Found) → SettingsView → Result SettingsView FeedFault
selection_in found settings = kept_on (found paper.Calendar) (found paper.CalendarDates) settings settings.date

abbrev pub settings_in : (Paper → Found) → Result SettingsView FeedFault
settings_in found = settings_of (found paper.Settings) (found paper.Terminals) (found paper.Tolerances) >>= selection_in found

abbrev pub timetable_in : (Paper → Found) → SettingsView → Result TimetableView FeedFault
timetable_in found settings = base_of settings (found paper.Trips) (found paper.StopTimes)

abbrev pub deadheads_in : (Paper → Found) → TimetableView → Result (TimetableView × List Entry) FeedFault
deadheads_in found timetable = deadheads_of (found paper.Deadheads) timetable

abbrev pub pulls_in : (Paper → Found) → TimetableView → Result (List Pull) FeedFault
pulls_in found timetable = pulls_of (found paper.Depot) timetable

abbrev pub rules_in : (Paper → Found) → Result (List PairRule) FeedFault
rules_in found = rules_of (found paper.Pairs)

-- the lines of the script, none where there is no file of edits
abbrev pub lines_by : Found → Result (List Line) FeedFault
lines_by found = optional_in paper.Edits [] (script_of paper.Edits) found

abbrev pub lines_in : (Paper → Found) → Result (List Line) FeedFault
lines_in found = lines_by (found paper.Edits)

-- what holds of these parts
abbrev pub said_with : SettingsView → TimetableView → List Entry → List Pull → List PairRule → List Line → FeedView
said_with settings base entries pulls rules lines =
    record { settings = settings; base = base; lines = lines; entries = entries; pulls = pulls; rules = rules }

-- the timetable that stands after all records of the script
abbrev pub standing : FeedView → TimetableView
standing said = standing_after said.base said.lines

-- rule: the order of refusals from file to file
-- What the papers say. They are judged one after the other, and the first refusal ends it.
unfoldable pub said_by : (Paper → Found) → Result FeedView FeedFault
said_by found = do
  settings ← settings_in found
  timetable ← timetable_in found settings
  deadheads ← deadheads_in found timetable
  pulls ← pulls_in found deadheads.0
  rules ← rules_in found
  lines ← lines_in found
  Ok (said_with settings deadheads.0 deadheads.1 pulls rules lines)

-- what a feed says
abbrev pub said_of : Feed → FeedView
said_of feed = said_with feed.settings feed.timetable feed.deadheads feed.pulls feed.rules feed.lines.items

-- all papers of a feed were read
abbrev pub HasPapers : List Page → Type 0
HasPapers pages = AllByRecursion (IsAmong (papers_of pages)) feed_papers

-- a feed has the pulls of each of its places
abbrev pub HavePulls : Feed → Type 0
HavePulls feed = length feed.pulls ≡ length feed.timetable.places
