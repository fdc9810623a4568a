-- The deficit of a place at a minute: departures so far less arrivals so far. An example: T1 leaves Harbour at 07:00 and ends at
-- Mill at 07:30, its layover included. T2 leaves Mill at 07:30 and ends at Harbour at 08:00. The deficit of Harbour is 1 from
-- 07:00 to 07:59, and 0 at 08:00. That of Mill stays 0. The maxima add up to 1, so one vehicle is enough.
use Rattle.std.specs.Prelude.{ℕ, List, map, filter, count_by, ◌==◌, nat_le, ◌&&◌, ℤ, pos, ◌-ℤ◌}
use Rattle.trip_model.specs.declared.trip.Move.{Move}
use Rattle.trip_model.specs.Timetable.{Slot}
use Rattle.trip_model.specs.Trip.{move_of}

-- how many of the moves leave the place at or before the minute
abbrev pub departures : List Move → ℕ → ℕ → ℕ
departures moves place minute = count_by (λ m. (m.from == place) && nat_le m.leaves minute) moves

-- how many of the moves arrive at the place at or before the minute
abbrev pub arrivals : List Move → ℕ → ℕ → ℕ
arrivals moves place minute = count_by (λ m. (m.to == place) && nat_le m.arrives minute) moves

-- rule: the deficit of a place
-- the departures less the arrivals: both count in their own minute, so that a vehicle may leave in the minute in which
-- it arrives
abbrev pub deficit : List Move → ℕ → ℕ → ℤ
deficit moves place minute = pos (departures moves place minute) -ℤ pos (arrivals moves place minute)

-- the moves of the trips that run, in order of slot
abbrev pub live_moves : List Slot → List Move
live_moves slots = map (λ s. move_of s.trip) (filter (λ s. s.trip.live) slots)
