-- The timetable of a feed that is written, and when its times can be written.
use Rattle.std.specs.Prelude.{ℕ, ◌+◌, ◌<◌, ◌≤◌, List, [], ◌∷◌, All, ℤ, if◌then◌else◌}
use Rattle.std.specs.Option.{IfSome}
use Rattle.gtfs_tables.specs.Table.{TableView}
use Rattle.gtfs_tables.specs.Times.{seconds_of}
use Rattle.gtfs_tables.specs.declared.times.TheConstants.{LAST_SECOND}
use Rattle.gtfs_tables.specs.declared.paper.Column.TheVariants as column
use Rattle.gtfs_tables.specs.Reading.{place_of, field_at}
use Rattle.trip_model.specs.declared.trip.Trip.{Trip}
use Rattle.trip_model.specs.Timetable.{TimetableView, Slot, slot_at}
use Rattle.block_writer.specs.Fields.{slot_in}
use Rattle.block_writer.specs.StopTimes.{moved, offset_of}

-- a trip at the minutes at which it stands, and where it does not run, at its own
abbrev pub trip_written : Trip → Trip → Trip
trip_written trip now = if now.live then record trip { departs = now.departs; ends = now.ends } else trip

-- slots from this number on, each with its trip at the minutes at which the trip of that number stands
abbrev pub slots_written : TimetableView → ℕ → List Slot → List Slot
slots_written standing s [] = []
slots_written standing s (slot ∷ slots) = record slot { trip = trip_written slot.trip (slot_at standing s).trip }
    ∷ slots_written standing (s + 1) slots

-- a timetable with its trips at the minutes at which they stand in one that follows it
abbrev pub as_written : TimetableView → TimetableView → TimetableView
as_written base standing = record base { slots = slots_written standing 0 base.slots }

-- the moved time of a field, if it has one, is before 100:00:00, so that two digits are enough for its hour
abbrev pub StaysWritable : ℤ → List ℕ → Type 0
StaysWritable offset field = IfSome (seconds_of field) (λ seconds. moved offset seconds ≤ LAST_SECOND)

-- both times of a record do, moved by so many minutes
pub record IsRowWritable (offset : ℤ) (arrives departs : List ℕ) : Type 0 where
  pub arrival : StaysWritable offset arrives
  pub departure : StaysWritable offset departs

-- so do those of all records of stop times, each moved with its trip, which is one of the first so many slots
abbrev pub AreWritable : TableView → TimetableView → ℕ → Type 0
AreWritable table standing base =
    All
    (λ row. IsRowWritable (offset_of standing base (slot_in standing (place_of column.TripId table.header) row))
    (field_at row (place_of column.ArrivalTime table.header)) (field_at row (place_of column.DepartureTime table.header)))
    table.rows

-- the time of a field, if it has one, is before 99:00:00
abbrev pub IsEarly : List ℕ → Type 0
IsEarly field = IfSome (seconds_of field) (λ seconds. seconds < 356400)

-- so are both times of each record of stop times
abbrev pub AreEarly : TableView → Type 0
AreEarly table = All (λ row. IsEarly (field_at row (place_of column.ArrivalTime table.header))
    × IsEarly (field_at row (place_of column.DepartureTime table.header))) table.rows
