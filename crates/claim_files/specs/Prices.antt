-- The records of `prices.csv` as they are read: one for each trip.
use Rattle.std.specs.Prelude.{ℕ, nat_lt, List, [], ◌∷◌, ◌++◌, length, Result, Ok}
use Rattle.desk_io.specs.declared.shelf.Found.{Found}
use Rattle.gtfs_tables.specs.declared.fault.FeedFault.{FeedFault}
use Rattle.gtfs_tables.specs.declared.fault.FeedFault.TheVariants as fault
use Rattle.gtfs_tables.specs.declared.paper.Column.TheVariants as column
use Rattle.gtfs_tables.specs.declared.paper.Paper.TheVariants as paper
use Rattle.gtfs_tables.specs.Fold.{paper_read}
use Rattle.gtfs_tables.specs.Reading.{◌>>=◌, provided, nothing, column_in, field_at, text_in, filled_in, number_in}
use Rattle.price_check.specs.declared.claim.PriceRow.{PriceRow}
use Rattle.price_check.specs.declared.claim.TheConstants.{MOST_PRICE}
use Rattle.trip_model.specs.declared.limits.TheConstants.{MOST_SLOTS}
use Rattle.trip_model.specs.Timetable.{TimetableView}
use Rattle.claim_files.specs.declared.prices.Columns.{Columns}
use Rattle.claim_files.specs.Running.{running}

-- where the required columns are
unfoldable pub columns_in : List (List ℕ) → Result Columns FeedFault
columns_in header = do
  trip ← column_in paper.Prices column.TripId header
  leave ← column_in paper.Prices column.Leave header
  enter ← column_in paper.Prices column.Enter header
  Ok (record { trip = trip; leave = leave; enter = enter })

-- one record: the name of its trip, and the prices of leaving it and of entering it, numbers of at most twelve digits
unfoldable pub prices_in : Columns → ℕ → List (List ℕ) → Result (List ℕ × ℕ × ℕ) FeedFault
prices_in columns number fields = do
  trip ← text_in paper.Prices number column.TripId (field_at fields columns.trip)
  leave_text ← text_in paper.Prices number column.Leave (field_at fields columns.leave)
  enter_text ← text_in paper.Prices number column.Enter (field_at fields columns.enter)
  _ ← filled_in paper.Prices number column.TripId trip
  _ ← filled_in paper.Prices number column.Leave leave_text
  _ ← filled_in paper.Prices number column.Enter enter_text
  leave ← number_in paper.Prices number column.Leave 12 MOST_PRICE leave_text
  enter ← number_in paper.Prices number column.Enter 12 MOST_PRICE enter_text
  Ok (trip, leave, enter)

-- the row of a record
abbrev pub price_row_of : TimetableView → List ℕ → ℕ → ℕ → PriceRow
price_row_of timetable trip leave enter = record { trip = trip; slot = running timetable trip; leave = leave; enter = enter }

-- rule: too many trips
-- rule: the order of refusals within a file
-- the rows with that of one record, at most 4,096 in all
unfoldable pub with_prices : TimetableView → Columns → ℕ → List PriceRow → List (List ℕ) → Result (List PriceRow) FeedFault
with_prices timetable columns number before fields = do
  _ ← provided (nat_lt (length before) MOST_SLOTS) (fault.TooManyTrips number) nothing
  prices ← prices_in columns number fields
  Ok (before ++ price_row_of timetable prices.0 prices.1 prices.2 ∷ [])

-- the file, record by record
abbrev pub prices_of : TimetableView → Found → Result (List PriceRow) FeedFault
prices_of timetable found = paper_read paper.Prices columns_in (with_prices timetable) [] found
