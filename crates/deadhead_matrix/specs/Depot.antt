-- The pulls that `depot.csv` gives terminals.
use Rattle.std.specs.Prelude.{ℕ, List, [], map, Result, Ok, unwrap_or}
use Rattle.desk_io.specs.declared.shelf.Found.{Found}
use Rattle.gtfs_tables.specs.declared.fault.FeedFault.{FeedFault}
use Rattle.gtfs_tables.specs.declared.paper.Column.{Column}
use Rattle.gtfs_tables.specs.declared.paper.Column.TheVariants as column
use Rattle.gtfs_tables.specs.declared.paper.Paper.TheVariants as paper
use Rattle.gtfs_tables.specs.Entries.{Name, Entries, value_of, with_record}
use Rattle.gtfs_tables.specs.Fold.{optional_read}
use Rattle.gtfs_tables.specs.Reading.{◌>>=◌, column_in, field_at, text_in, filled_in, number_in}
use Rattle.trip_model.specs.Place.{Place}
use Rattle.trip_model.specs.Timetable.{TimetableView}
use Rattle.deadhead_matrix.specs.declared.depot.Columns.{Columns}
use Rattle.assignment_model.specs.declared.limits.TheConstants.{MOST_DEADHEAD}
use Rattle.deadhead_matrix.specs.declared.pulls.Pull.{Pull}
use Rattle.deadhead_matrix.specs.declared.pulls.TheConstants.{NO_PULL}

-- where the required columns are
unfoldable pub columns_in : List (List ℕ) → Result Columns FeedFault
columns_in header = do
  terminal ← column_in paper.Depot column.Terminal header
  pull_out ← column_in paper.Depot column.PullOut header
  pull_in ← column_in paper.Depot column.PullIn header
  Ok (record { terminal = terminal; pull_out = pull_out; pull_in = pull_in })

-- the value of a field that has to be a number of at most four digits up to 1,440
abbrev pub minutes_in : ℕ → Column → List ℕ → Result ℕ FeedFault
minutes_in number column text = number_in paper.Depot number column 4 MOST_DEADHEAD text

-- the terminal of one record and its pulls
unfoldable pub depot_row_in : Columns → ℕ → List (List ℕ) → Result (Name × Pull) FeedFault
depot_row_in columns number fields = do
  terminal ← text_in paper.Depot number column.Terminal (field_at fields columns.terminal)
  out_text ← text_in paper.Depot number column.PullOut (field_at fields columns.pull_out)
  in_text ← text_in paper.Depot number column.PullIn (field_at fields columns.pull_in)
  _ ← filled_in paper.Depot number column.Terminal terminal
  _ ← filled_in paper.Depot number column.PullOut out_text
  _ ← filled_in paper.Depot number column.PullIn in_text
  pull_out ← minutes_in number column.PullOut out_text
  pull_in ← minutes_in number column.PullIn in_text
  Ok (terminal, record { pull_out = pull_out; pull_in = pull_in })

-- rule: the order of refusals within a file
-- the rows with that of one record
abbrev pub with_row : Columns → ℕ → Entries Pull → List (List ℕ) → Result (Entries Pull) FeedFault
with_row columns number before fields = depot_row_in columns number fields >>= with_record paper.Depot number before

-- the rows of the file, record by record; without one there are none
abbrev pub rows_of : Found → Result (Entries Pull) FeedFault
rows_of found = optional_read paper.Depot columns_in with_row [] found

-- rule: the pull-out and pull-in of a terminal
-- the pulls of a terminal; none where it has no row
abbrev pub pull_of : Entries Pull → Name → Pull
pull_of rows terminal = unwrap_or (value_of terminal rows) NO_PULL

-- the pulls that rows give places, each those of its terminal
abbrev pub pulls_by : Entries Pull → List Place → List Pull
pulls_by rows places = map (λ place. pull_of rows place.terminal) places

-- the pulls that the file gives the places of a timetable
abbrev pub pulls_of : Found → TimetableView → Result (List Pull) FeedFault
pulls_of found timetable = rows_of found >>= λ rows. Ok (pulls_by rows timetable.places)
