-- The files that are read, by their printed names, how long they may be, and the columns that are asked of them.
use Rattle.std.specs.Prelude.{ℕ, List, codes}
use Rattle.desk_io.specs.Shelf.{FitsIn}
use Rattle.desk_io.specs.declared.shelf.Found.{Found}
use Rattle.gtfs_tables.specs.declared.paper.TheConstants.{MOST_BYTES}
use Rattle.gtfs_tables.specs.declared.paper.Paper.{Paper}
use Rattle.gtfs_tables.specs.declared.paper.Paper.TheVariants as paper
use Rattle.gtfs_tables.specs.declared.paper.Column.{Column}
use Rattle.gtfs_tables.specs.declared.paper.Column.TheVariants as column

-- rule: the names of files and columns
-- the name by which a file is read and printed
abbrev pub file_name_of : Paper → List ℕ
file_name_of paper.Settings = codes "desk.toml"
file_name_of paper.Terminals = codes "terminals.csv"
file_name_of paper.Tolerances = codes "tolerances.csv"
file_name_of paper.Calendar = codes "calendar.txt"
file_name_of paper.CalendarDates = codes "calendar_dates.txt"
file_name_of paper.Trips = codes "trips.txt"
file_name_of paper.StopTimes = codes "stop_times.txt"
file_name_of paper.Deadheads = codes "deadheads.csv"
file_name_of paper.Depot = codes "depot.csv"
file_name_of paper.Pairs = codes "pairs.csv"
file_name_of paper.Edits = codes "edits.csv"
file_name_of paper.PlannerEdits = codes "planner_edits.csv"
file_name_of paper.Journal = codes "journal"
file_name_of paper.Blocks = codes "blocks.csv"
file_name_of paper.Prices = codes "prices.csv"

-- what was found of a file has no more bytes than a file may have
abbrev pub IsWithinLimit : Found → Type 0
IsWithinLimit found = FitsIn MOST_BYTES found

-- rule: the names of files and columns
-- the name of a column, as it is in a header and is printed; `field` for any other
abbrev pub column_name_of : Column → List ℕ
column_name_of column.StopId = codes "stop_id"
column_name_of column.Terminal = codes "terminal"
column_name_of column.TripId = codes "trip_id"
column_name_of column.Early = codes "early"
column_name_of column.Late = codes "late"
column_name_of column.Monday = codes "monday"
column_name_of column.Tuesday = codes "tuesday"
column_name_of column.Wednesday = codes "wednesday"
column_name_of column.Thursday = codes "thursday"
column_name_of column.Friday = codes "friday"
column_name_of column.Saturday = codes "saturday"
column_name_of column.Sunday = codes "sunday"
column_name_of column.StartDate = codes "start_date"
column_name_of column.EndDate = codes "end_date"
column_name_of column.Date = codes "date"
column_name_of column.ExceptionType = codes "exception_type"
column_name_of column.ServiceId = codes "service_id"
column_name_of column.RouteId = codes "route_id"
column_name_of column.BlockId = codes "block_id"
column_name_of column.ArrivalTime = codes "arrival_time"
column_name_of column.DepartureTime = codes "departure_time"
column_name_of column.StopSequence = codes "stop_sequence"
column_name_of column.From = codes "from"
column_name_of column.To = codes "to"
column_name_of column.Minutes = codes "minutes"
column_name_of column.PullOut = codes "pull_out"
column_name_of column.PullIn = codes "pull_in"
column_name_of column.Before = codes "before"
column_name_of column.After = codes "after"
column_name_of column.Rule = codes "rule"
column_name_of column.Deadhead = codes "deadhead"
column_name_of column.Leave = codes "leave"
column_name_of column.Enter = codes "enter"
column_name_of column.Other = codes "field"
