-- The terminals that `terminals.csv` names for stops.
use Rattle.std.specs.Prelude.{ℕ, List, [], Result, Ok}
use Rattle.desk_io.specs.declared.shelf.Found.{Found}
use Rattle.gtfs_tables.specs.declared.fault.FeedFault.{FeedFault}
use Rattle.gtfs_tables.specs.declared.paper.Column.TheVariants as column
use Rattle.gtfs_tables.specs.declared.paper.Paper.TheVariants as paper
use Rattle.gtfs_tables.specs.Fold.{optional_read}
use Rattle.gtfs_tables.specs.Reading.{◌>>=◌, column_in, field_at, text_in, filled_in}
use Rattle.gtfs_tables.specs.Entries.{Name, Entries, with_record}
use Rattle.desk_settings.specs.declared.terminals.Columns.{Columns}

-- where the required columns are
unfoldable pub columns_in : List (List ℕ) → Result Columns FeedFault
columns_in header = do
  stop ← column_in paper.Terminals column.StopId header
  terminal ← column_in paper.Terminals column.Terminal header
  Ok (record { stop = stop; terminal = terminal })

-- the stop and the terminal of one record
unfoldable pub terminal_in : Columns → ℕ → List (List ℕ) → Result (Name × Name) FeedFault
terminal_in columns number fields = do
  stop ← text_in paper.Terminals number column.StopId (field_at fields columns.stop)
  terminal ← text_in paper.Terminals number column.Terminal (field_at fields columns.terminal)
  _ ← filled_in paper.Terminals number column.StopId stop
  _ ← filled_in paper.Terminals number column.Terminal terminal
  Ok (stop, terminal)

-- rule: the order of refusals within a file
-- the terminals with that of one record
abbrev pub with_terminal : Columns → ℕ → Entries Name → List (List ℕ) → Result (Entries Name) FeedFault
with_terminal columns number before fields = terminal_in columns number fields >>= with_record paper.Terminals number before

-- the terminals of the file, record by record; without one there are none
abbrev pub terminals_of : Found → Result (Entries Name) FeedFault
terminals_of found = optional_read paper.Terminals columns_in with_terminal [] found
