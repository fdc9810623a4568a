-- The services that run on a date.
use Rattle.std.specs.Prelude.{◌≡◌, ℕ, ◌==◌, Bool, true, false, ◌&&◌, not, List, [], fold, Option, Some, None, Result, Ok, Contains, IsTrue}
use Rattle.std.specs.Prelude.{◌↔◌, if◌then◌else◌}
use Rattle.std.specs.BTreeSet.{insert_key}
use Rattle.std.specs.Cmp.Lexicographic.{slice_cmp}
use Rattle.std.specs.List.Sorted.{IsStrictlySortedBy}
use Rattle.std.specs.Ordering.{nat_cmp}
use Rattle.desk_io.specs.declared.shelf.Found.{Found}
use Rattle.desk_io.specs.declared.shelf.Found.TheVariants.{File, Missing, TooLong}
use Rattle.gtfs_tables.specs.declared.fault.FeedFault.{FeedFault}
use Rattle.gtfs_tables.specs.declared.fault.FeedFault.TheVariants as fault
use Rattle.gtfs_tables.specs.declared.paper.Paper.TheVariants as paper
use Rattle.gtfs_tables.specs.Entries.{Name, Entries, value_of}
use Rattle.gtfs_tables.specs.Reading.{◌>>=◌, provided}
use Rattle.service_days.specs.declared.calendar.ServicePeriod.{ServicePeriod}
use Rattle.service_days.specs.declared.calendar_dates.Exception.{Exception}
use Rattle.service_days.specs.declared.calendar_dates.Exception.TheVariants.{Added, Removed}
use Rattle.service_days.specs.Calendar.{schedules_of, covers}
use Rattle.service_days.specs.CalendarDates.{ServiceDate, exceptions_of, exception_of}

-- the services with their schedules, and those on dates with their exceptions, record by record
pub record ServicesView : Type 0 where
  pub schedules : Entries ServicePeriod
  pub exceptions : List (ServiceDate × Exception)

-- whether there is no such file
abbrev pub is_missing : Found → Bool
is_missing Missing = true
is_missing (File bytes) = false
is_missing TooLong = false

-- what `calendar.txt` and `calendar_dates.txt` say, judged in this order; one of them must be there
unfoldable pub services_of : Found → Found → Result ServicesView FeedFault
services_of calendar dates = provided (not (is_missing calendar && is_missing dates)) (fault.Missing paper.Calendar) (do
  schedules ← schedules_of calendar
  exceptions ← exceptions_of dates
  Ok (record { schedules = schedules; exceptions = exceptions }))

-- whether a schedule, if there is one, has the date
abbrev pub is_scheduled : Option ServicePeriod → ℕ → Bool
is_scheduled None date = false
is_scheduled (Some schedule) date = covers schedule date

-- whether a service with that exception on the date, or with none, and that schedule runs on it
abbrev pub runs_by : Option Exception → Option ServicePeriod → ℕ → Bool
runs_by (Some Added) schedule date = true
runs_by (Some Removed) schedule date = false
runs_by None schedule date = is_scheduled schedule date

-- rule: which services run on a date
-- whether a service runs on a date
abbrev pub is_running : ServicesView → ℕ → Name → Bool
is_running services date service = runs_by (exception_of services.exceptions (service, date)) (value_of service services.schedules) date

-- exactly the services that run on a date, each once, in the order of their bytes
pub record AreRunning (services : ServicesView) (date : ℕ) (names : List Name) : Type 0 where
  pub exact : (service : Name) → IsTrue (is_running services date service) ↔ Contains names service
  pub rising : IsStrictlySortedBy (slice_cmp nat_cmp) names

-- services in byte order, with one more at its place where it runs on the date
abbrev pub with_running : ServicesView → ℕ → List Name → Name → List Name
with_running services date names service = if is_running services date service then insert_key (slice_cmp nat_cmp) names service else names

-- and with that of an exception, where it is one of the date
abbrev pub with_excepted : ServicesView → ℕ → List Name → ServiceDate → List Name
with_excepted services date names key = if key.1 == date then with_running services date names key.0 else names

-- the services that run on a date, in byte order: of those that have a schedule, and of those that have an exception on it
abbrev pub scheduled_on : ServicesView → ℕ → List Name → List Name
scheduled_on services date names = fold (λ before entry. with_running services date before entry.0) names services.schedules

abbrev pub excepted_on : ServicesView → ℕ → List Name → List Name
excepted_on services date names = fold (λ before entry. with_excepted services date before entry.0) names services.exceptions

abbrev pub services_on : ServicesView → ℕ → List Name
services_on services date = excepted_on services date (scheduled_on services date [])

-- those of the two files
abbrev pub services_running : ℕ → Found → Found → Result (List Name) FeedFault
services_running date calendar dates = services_of calendar dates >>= λ services. Ok (services_on services date)

-- the services that run on a date by what the two files say
pub record AreServicesOn (date : ℕ) (calendar dates : Found) (names : List Name) : Type 0 where
  pub services : ServicesView
  pub said : services_of calendar dates ≡ Ok services
  pub running : AreRunning services date names
