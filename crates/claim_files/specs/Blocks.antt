-- The records of `blocks.csv` as they are read: one for each trip, block by block.
use Rattle.std.specs.Prelude.{ℕ, ◌+◌, ◌==◌, nat_lt, List, [], ◌∷◌, ◌++◌, length, Option, None, Some, Result, Ok}
use Rattle.desk_io.specs.declared.shelf.Found.{Found}
use Rattle.desk_settings.specs.Names.{with_name}
use Rattle.gtfs_tables.specs.declared.fault.FeedFault.{FeedFault}
use Rattle.gtfs_tables.specs.declared.fault.FeedFault.TheVariants as fault
use Rattle.gtfs_tables.specs.declared.paper.Column.TheVariants as column
use Rattle.gtfs_tables.specs.declared.paper.Paper.TheVariants as paper
use Rattle.gtfs_tables.specs.Fold.{paper_read}
use Rattle.gtfs_tables.specs.Reading.{◌>>=◌, provided, nothing, column_in, field_at, text_in, filled_in, number_in}
use Rattle.gtfs_tables.specs.Entries.{Name}
use Rattle.price_check.specs.declared.claim.BlockRow.{BlockRow}
use Rattle.trip_model.specs.declared.limits.TheConstants.{MOST_SLOTS}
use Rattle.trip_model.specs.Timetable.{TimetableView, number_of}
use Rattle.claim_files.specs.declared.blocks.Columns.{Columns}
use Rattle.claim_files.specs.declared.blocks.TheConstants.{MOST_SHOWN}
use Rattle.claim_files.specs.Running.{running}

-- where the required columns are
unfoldable pub columns_in : List (List ℕ) → Result Columns FeedFault
columns_in header = do
  block ← column_in paper.Blocks column.BlockId header
  trip ← column_in paper.Blocks column.TripId header
  deadhead ← column_in paper.Blocks column.Deadhead header
  Ok (record { block = block; trip = trip; deadhead = deadhead })

-- one record: the name of its block, that of its trip, and the empty minutes before it, a number of at most six digits
unfoldable pub trip_in : Columns → ℕ → List (List ℕ) → Result (Name × Name × ℕ) FeedFault
trip_in columns number fields = do
  block ← text_in paper.Blocks number column.BlockId (field_at fields columns.block)
  trip ← text_in paper.Blocks number column.TripId (field_at fields columns.trip)
  minutes ← text_in paper.Blocks number column.Deadhead (field_at fields columns.deadhead)
  _ ← filled_in paper.Blocks number column.BlockId block
  _ ← filled_in paper.Blocks number column.TripId trip
  _ ← filled_in paper.Blocks number column.Deadhead minutes
  deadhead ← number_in paper.Blocks number column.Deadhead 6 MOST_SHOWN minutes
  Ok (block, trip, deadhead)

-- the number of the block of a record after so many blocks, by where its name is among theirs. The last block goes on, and any
-- other name must be new
abbrev pub numbered : ℕ → ℕ → Option ℕ → Result ℕ FeedFault
numbered number blocks None = Ok blocks
numbered number blocks (Some block) = provided (block + 1 == blocks) (fault.DuplicateRow paper.Blocks number) (Ok block)

-- the same, of a record that names its block so
abbrev pub block_number : ℕ → List Name → Name → Result ℕ FeedFault
block_number number names name = numbered number (length names) (number_of names name)

-- the names of the blocks so far, and a row for each record
pub record BlocksRead : Type 0 where
  pub names : List Name
  pub rows : List BlockRow

-- the row of a record of that block
abbrev pub block_row_of : TimetableView → ℕ → Name → ℕ → BlockRow
block_row_of timetable block trip deadhead = record { block = block; trip = trip; slot = running timetable trip; deadhead = deadhead }

-- rule: too many trips
-- rule: the order of refusals within a file
-- the rows with that of one record, at most 4,096 in all
unfoldable pub with_trip : TimetableView → Columns → ℕ → BlocksRead → List (List ℕ) → Result BlocksRead FeedFault
with_trip timetable columns number before fields = do
  _ ← provided (nat_lt (length before.rows) MOST_SLOTS) (fault.TooManyTrips number) nothing
  trip ← trip_in columns number fields
  block ← block_number number before.names trip.0
  Ok (record { names = with_name before.names trip.0; rows = before.rows ++ block_row_of timetable block trip.1 trip.2 ∷ [] })

-- no records
abbrev pub no_blocks : BlocksRead
no_blocks = record { names = []; rows = [] }

-- the file, record by record
abbrev pub blocks_of : TimetableView → Found → Result BlocksRead FeedFault
blocks_of timetable found = paper_read paper.Blocks columns_in (with_trip timetable) no_blocks found

-- the rows of the file
abbrev pub rows_of : TimetableView → Found → Result (List BlockRow) FeedFault
rows_of timetable found = blocks_of timetable found >>= λ read. Ok read.rows
