-- No trip is moved by more than an hour, so a time before 99:00:00 is moved to one before 100:00:00.
use Rattle.std.proofs.Common.{ℕ, ◌<◌, ◌≤◌, ◌&&◌, Bool, true, false, cond, List, get_or, length, Option, Some, None, ℤ, pos, negsuc, ◌≤ℤ◌}
use Rattle.std.proofs.Common.{nat_lt, sym, subst, arith, inl, inr}
use Rattle.std.specs.Option.{IfSome}
use Rattle.std.proofs.lemmas.Bool.{cases_lt}
use Rattle.std.proofs.lemmas.Int.{ints}
use Rattle.std.proofs.lemmas.List.{get_or_past}
use Rattle.gtfs_tables.specs.Times.{seconds_of}
use Rattle.gtfs_tables.specs.declared.paper.Column.TheVariants as column
use Rattle.gtfs_tables.specs.Reading.{place_of, field_at}
use Rattle.trip_model.specs.Timetable.{TimetableView, IsTimetable, Slot, slot_at}
use Rattle.trip_model.specs.Trip.{IsValidTrip}
use Rattle.block_writer.specs.Fields.{slot_in}
use Rattle.block_writer.specs.StopTimes.{moved, offset_of}
use Rattle.written_laws.specs.Laws as spec
use Rattle.written_laws.specs.Written.{IsEarly, IsRowWritable, StaysWritable}
use Rattle.written_laws.proofs.Times.{moved-later}

-- a trip that stands is moved by at most an hour
slot-hour : (standing : TimetableView) (s : ℕ) → IsTimetable standing → (slot_at standing s).trip.offset ≤ℤ pos 60
slot-hour standing s is = elim (cases_lt s (length standing.slots)) [
  | inl within ↦
      let valid : IsValidTrip standing.places (slot_at standing s).trip = is.trips s _ within in
      omega (arith, ints, valid.not_too_late, valid.late)
  | inr past ↦ subst (λ (slot : Slot). slot.trip.offset ≤ℤ pos 60) (sym (get_or_past standing.slots s _ past)) (omega (arith, ints))
]

-- and so is a record
offset-hour : (standing : TimetableView) (base : ℕ) (slot : Option ℕ) → IsTimetable standing → offset_of standing base slot ≤ℤ pos 60
offset-hour standing base None is = omega (arith, ints)
offset-hour standing base (Some s) is = by (nat_lt s base && (slot_at standing s).trip.live)
  where
    by : (b : Bool) → cond b (slot_at standing s).trip.offset (pos 0) ≤ℤ pos 60
    by true = slot-hour standing s is
    by false = omega (arith, ints)

moved-before : (offset : ℤ) (seconds : ℕ) → offset ≤ℤ pos 60 → seconds < 356400 → moved offset seconds ≤ 359999
moved-before (pos n) seconds hour early =
    let few : n ≤ 60 = omega (arith, ints, hour) in
    rw (moved-later n seconds) (omega arith)
moved-before (negsuc n) seconds hour early = omega arith

stays-writable : (offset : ℤ) (field : List ℕ) → offset ≤ℤ pos 60 → IsEarly field → StaysWritable offset field
stays-writable offset field hour early = by (seconds_of field) early
  where
    by : (found : Option ℕ) → IfSome found (λ seconds. seconds < 356400) → IfSome found (λ seconds. moved offset seconds ≤ 359999)
    by None early = tt
    by (Some seconds) early = moved-before offset seconds hour early

row-writable : (standing : TimetableView) (base : ℕ) (slot : Option ℕ) (arrives departs : List ℕ) → IsTimetable standing
    → IsEarly arrives × IsEarly departs → IsRowWritable (offset_of standing base slot) arrives departs
row-writable standing base slot arrives departs is early =
    let hour = offset-hour standing base slot is in
    record {
      arrival = stays-writable (offset_of standing base slot) arrives hour early.0;
      departure = stays-writable (offset_of standing base slot) departs hour early.1;
    }

pub early-writable : spec.EarlyTimesAreWritable
early-writable table standing base is early = λ i d within.
    let row : List (List ℕ) = get_or table.rows i d in
    row-writable standing base (slot_in standing (place_of column.TripId table.header) row)
    (field_at row (place_of column.ArrivalTime table.header)) (field_at row (place_of column.DepartureTime table.header)) is
    (early i d within)
