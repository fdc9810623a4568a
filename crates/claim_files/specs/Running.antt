-- The slots that names speak of.
use Rattle.std.specs.Prelude.{ℕ, List, Option}
use Rattle.std.specs.Bool.{then_some}
use Rattle.std.specs.Option.{option_and_then}
use Rattle.trip_model.specs.Timetable.{TimetableView, number_of, slot_at, slot_names}

-- the slot, if its trip runs
abbrev pub if_runs : TimetableView → ℕ → Option ℕ
if_runs timetable s = then_some (slot_at timetable s).trip.live s

-- rule: which trip a record of a claim names
-- the slot of the trip of that name, if it runs
abbrev pub running : TimetableView → List ℕ → Option ℕ
running timetable name = option_and_then (if_runs timetable) (number_of (slot_names timetable) name)
