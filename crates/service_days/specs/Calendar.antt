-- The weekly schedules that `calendar.txt` gives services.
use Rattle.std.specs.Prelude.{ℕ, zero, suc, ◌==◌, ◌&&◌, Bool, false, List, [], ◌∷◌, ◌++◌, length, map, nat_le, slice_index_or, Result, Ok}
use Rattle.desk_io.specs.declared.shelf.Found.{Found}
use Rattle.gtfs_tables.specs.declared.fault.FeedFault.{FeedFault}
use Rattle.gtfs_tables.specs.declared.paper.Column.{Column}
use Rattle.gtfs_tables.specs.declared.paper.Column.TheVariants as column
use Rattle.gtfs_tables.specs.declared.paper.Paper.TheVariants as paper
use Rattle.gtfs_tables.specs.Entries.{Name, Entries, with_record}
use Rattle.gtfs_tables.specs.Fold.{optional_read}
use Rattle.gtfs_tables.specs.Reading.{◌>>=◌, nothing, column_in, field_at, text_in, filled_in, number_in}
use Rattle.service_days.specs.declared.calendar.Columns.{Columns}
use Rattle.service_days.specs.declared.calendar.ServicePeriod.{ServicePeriod}
use Rattle.service_days.specs.declared.calendar.Texts.{Texts}
use Rattle.service_days.specs.declared.calendar.Weekdays.{Weekdays}
use Rattle.service_days.specs.Dates.{weekday_of, date_in}

-- the columns of the weekdays
abbrev pub weekdays : List Column
weekdays =
    column.Monday ∷ column.Tuesday ∷ column.Wednesday ∷ column.Thursday ∷ column.Friday ∷ column.Saturday ∷ column.Sunday ∷ []

-- the column of a weekday, from 0 for Monday; past Sunday it does not matter
abbrev pub weekday : ℕ → Column
weekday day = slice_index_or weekdays day column.StopId

-- what is read of so many weekdays more, after those before them, up to the first refusal
abbrev pub days_more : {A : Type 0} → (ℕ → Result A FeedFault) → ℕ → List A → Result (List A) FeedFault
days_more read zero so_far = Ok so_far
days_more read (suc more) so_far = read (length so_far) >>= λ x. days_more read more (so_far ++ x ∷ [])

-- what is read of each weekday, from Monday, up to the first refusal
abbrev pub each_day : {A : Type 0} → (ℕ → Result A FeedFault) → Result (List A) FeedFault
each_day read = days_more read 7 []

-- where the columns of the weekdays are
abbrev pub weekday_columns : List (List ℕ) → Result (List ℕ) FeedFault
weekday_columns header = each_day (λ day. column_in paper.Calendar (weekday day) header)

-- where the required columns are
abbrev pub columns_in : List (List ℕ) → Result Columns FeedFault
columns_in header = do
  service ← column_in paper.Calendar column.ServiceId header
  weekdays ← weekday_columns header
  start ← column_in paper.Calendar column.StartDate header
  end ← column_in paper.Calendar column.EndDate header
  Ok (record { service = service; weekdays = weekdays; start = start; end = end })

-- the texts of a record
pub record TextsView : Type 0 where
  pub service : List ℕ
  pub weekdays : List (List ℕ)
  pub start : List ℕ
  pub end : List ℕ

-- the texts of the weekdays, as a clause sees them
abbrev pub days_seen : Weekdays → List (List ℕ)
days_seen weekdays = map (λ text. text.now) weekdays.texts

-- the texts of a record, as a clause sees them
abbrev pub seen : Texts → TextsView
seen texts = record {
  service = texts.service.now;
  weekdays = days_seen texts.weekdays;
  start = texts.start.now;
  end = texts.end.now;
}

-- the text of a field
abbrev pub text_at : ℕ → Column → ℕ → List (List ℕ) → Result (List ℕ) FeedFault
text_at number column place fields = text_in paper.Calendar number column (field_at fields place)

-- the texts of the weekdays
abbrev pub weekday_texts : Columns → ℕ → List (List ℕ) → Result (List (List ℕ)) FeedFault
weekday_texts columns number fields = each_day (λ day. text_at number (weekday day) (slice_index_or columns.weekdays day 0) fields)

-- the texts of a record, which must be UTF-8
abbrev pub texts_in : Columns → ℕ → List (List ℕ) → Result TextsView FeedFault
texts_in columns number fields = do
  service ← text_at number column.ServiceId columns.service fields
  weekdays ← weekday_texts columns number fields
  start ← text_at number column.StartDate columns.start fields
  end ← text_at number column.EndDate columns.end fields
  Ok (record { service = service; weekdays = weekdays; start = start; end = end })

-- the texts of the weekdays must not be empty
abbrev pub weekdays_filled : ℕ → List (List ℕ) → Result (Unit {0}) FeedFault
weekdays_filled number texts =
    each_day (λ day. filled_in paper.Calendar number (weekday day) (slice_index_or texts day [])) >>= λ _. nothing

-- the texts of a record must not be empty
abbrev pub filled : ℕ → TextsView → Result (Unit {0}) FeedFault
filled number texts = do
  _ ← filled_in paper.Calendar number column.ServiceId texts.service
  _ ← weekdays_filled number texts.weekdays
  _ ← filled_in paper.Calendar number column.StartDate texts.start
  _ ← filled_in paper.Calendar number column.EndDate texts.end
  nothing

-- whether a service runs on the weekday of a column: 1 says yes and 0 no
abbrev pub runs_in : ℕ → Column → List ℕ → Result Bool FeedFault
runs_in number column text = number_in paper.Calendar number column 1 1 text >>= λ flag. Ok (flag == 1)

-- on which weekdays a service runs, from Monday
abbrev pub weekdays_in : ℕ → List (List ℕ) → Result (List Bool) FeedFault
weekdays_in number texts = each_day (λ day. runs_in number (weekday day) (slice_index_or texts day []))

-- the service of one record and its schedule
abbrev pub schedule_in : Columns → ℕ → List (List ℕ) → Result (Name × ServicePeriod) FeedFault
schedule_in columns number fields = do
  texts ← texts_in columns number fields
  _ ← filled number texts
  weekdays ← weekdays_in number texts.weekdays
  start ← date_in paper.Calendar number column.StartDate texts.start
  end ← date_in paper.Calendar number column.EndDate texts.end
  Ok (texts.service, record { weekdays = weekdays; start = start; end = end })

-- rule: the order of refusals within a file
-- the schedules of services with that of one record
abbrev pub with_schedule : Columns → ℕ → Entries ServicePeriod → List (List ℕ) → Result (Entries ServicePeriod) FeedFault
with_schedule columns number before fields = schedule_in columns number fields >>= with_record paper.Calendar number before

-- the schedules of the file, record by record; without one there are none
abbrev pub schedules_of : Found → Result (Entries ServicePeriod) FeedFault
schedules_of found = optional_read paper.Calendar columns_in with_schedule [] found

-- whether a schedule has a date: its weekday, and from the start to the end, both included
abbrev pub covers : ServicePeriod → ℕ → Bool
covers schedule date =
    slice_index_or schedule.weekdays (weekday_of date) false && nat_le schedule.start date && nat_le date schedule.end
