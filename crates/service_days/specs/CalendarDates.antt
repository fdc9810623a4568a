-- The exceptions of dates that `calendar_dates.txt` gives services.
use Rattle.std.specs.Prelude.{ℕ, ◌==◌, ◌&&◌, Bool, not, List, [], ◌∷◌, ◌++◌, map, Option, Result, Ok, is_some, String, string_bytes}
use Rattle.std.specs.Prelude.{if◌then◌else◌}
use Rattle.std.specs.Map.{lookup}
use Rattle.std.specs.Str.{bytes_eq}
use Rattle.desk_io.specs.declared.shelf.Found.{Found}
use Rattle.gtfs_tables.specs.declared.fault.FeedFault.{FeedFault}
use Rattle.gtfs_tables.specs.declared.fault.FeedFault.TheVariants as fault
use Rattle.gtfs_tables.specs.declared.paper.Column.TheVariants as column
use Rattle.gtfs_tables.specs.declared.paper.Paper.TheVariants as paper
use Rattle.gtfs_tables.specs.Entries.{Name}
use Rattle.gtfs_tables.specs.Fold.{optional_read}
use Rattle.gtfs_tables.specs.Reading.{◌>>=◌, provided, column_in, field_at, text_in, filled_in, number_in}
use Rattle.service_days.specs.declared.calendar_dates.Columns.{Columns}
use Rattle.service_days.specs.declared.calendar_dates.Exception.{Exception}
use Rattle.service_days.specs.declared.calendar_dates.Exception.TheVariants.{Added, Removed}
use Rattle.service_days.specs.Dates.{date_in}

-- a service on a date
abbrev pub ServiceDate : Type 0
ServiceDate = Name × ℕ

-- where the required columns are
unfoldable pub columns_in : List (List ℕ) → Result Columns FeedFault
columns_in header = do
  service ← column_in paper.CalendarDates column.ServiceId header
  date ← column_in paper.CalendarDates column.Date header
  exception ← column_in paper.CalendarDates column.ExceptionType header
  Ok (record { service = service; date = date; exception = exception })

-- what a field says of the service on the date: 1 that it is added and 2 that it is removed
abbrev pub exception_in : ℕ → List ℕ → Result Exception FeedFault
exception_in number text = number_in paper.CalendarDates number column.ExceptionType 1 2 text
    >>= λ kind. provided (not (kind == 0)) (fault.BadNumber paper.CalendarDates number column.ExceptionType)
    (Ok (if kind == 1 then Added else Removed))

-- the service and the date of one record, with its exception
unfoldable pub exception_row_in : Columns → ℕ → List (List ℕ) → Result (Name × ℕ × Exception) FeedFault
exception_row_in columns number fields = do
  service ← text_in paper.CalendarDates number column.ServiceId (field_at fields columns.service)
  date_text ← text_in paper.CalendarDates number column.Date (field_at fields columns.date)
  exception_text ← text_in paper.CalendarDates number column.ExceptionType (field_at fields columns.exception)
  _ ← filled_in paper.CalendarDates number column.ServiceId service
  _ ← filled_in paper.CalendarDates number column.Date date_text
  _ ← filled_in paper.CalendarDates number column.ExceptionType exception_text
  date ← date_in paper.CalendarDates number column.Date date_text
  exception ← exception_in number exception_text
  Ok (service, date, exception)

-- whether two are the same service on the same date
abbrev pub is_same : ServiceDate → ServiceDate → Bool
is_same a b = bytes_eq a.0 b.0 && (a.1 == b.1)

-- the exception of a service on a date, if there is one
abbrev pub exception_of : List (ServiceDate × Exception) → ServiceDate → Option Exception
exception_of exceptions key = lookup (is_same key) exceptions

-- the exceptions with that of a record, whose service and date must be new together, at the end
abbrev pub with_exception : ℕ → List (ServiceDate × Exception) → Name × ℕ × Exception → Result (List (ServiceDate × Exception)) FeedFault
with_exception number before row =
    provided (not (is_some (exception_of before (row.0, row.1)))) (fault.DuplicateRow paper.CalendarDates number)
    (Ok (before ++ ((row.0, row.1), row.2) ∷ []))

-- rule: the order of refusals within a file
-- the exceptions with that of one record
abbrev pub with_record : Columns → ℕ → List (ServiceDate × Exception) → List (List ℕ) → Result (List (ServiceDate × Exception)) FeedFault
with_record columns number before fields = exception_row_in columns number fields >>= with_exception number before

-- the exceptions of the file, record by record; without one there are none
abbrev pub exceptions_of : Found → Result (List (ServiceDate × Exception)) FeedFault
exceptions_of found = optional_read paper.CalendarDates columns_in with_record [] found

-- the exceptions that a map from names and dates holds in order
abbrev pub exceptions_from : {Y : Type 0} → List ((String Y × ℕ) × Exception) → List (ServiceDate × Exception)
exceptions_from entries = map (λ e. ((string_bytes e.0.0, e.0.1), e.1)) entries
