-- The fewest vehicles without deadheads, and the timetable with a trip moved.
use Rattle.std.specs.Prelude.{ℕ, length, ℤ}
use Rattle.trip_model.specs.Deficit.{deficit, live_moves}
use Rattle.trip_model.specs.Maximum.{sum_of_maxima}
use Rattle.trip_model.specs.Timetable.{TimetableView, slot_at, with_trip}
use Rattle.trip_model.specs.Trip.{shifted}

-- rule: the fewest vehicles without deadheads
-- the sum of the maxima of the deficits of the trips that run, which is the fewest vehicles without deadheads
abbrev pub deficit_sum : TimetableView → ℤ
deficit_sum timetable = sum_of_maxima (deficit (live_moves timetable.slots)) (length timetable.places)

-- rule: a timetable with a shift
-- the timetable with the trip in a slot moved by so many minutes
abbrev pub with_shift : TimetableView → ℕ → ℤ → TimetableView
with_shift timetable slot by = with_trip timetable slot (shifted (slot_at timetable slot).trip by)
