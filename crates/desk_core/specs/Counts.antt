-- The blocks of a plan, and how many vehicles and empty minutes they have.
use Rattle.std.specs.Prelude.{ℕ, List, Option, None, Some, unwrap_or}
use Rattle.deadhead_matrix.specs.Fitting.{network_of}
use Rattle.deadhead_matrix.specs.Matrix.{MatrixView}
use Rattle.assignment_model.specs.Prices.{Plan}
use Rattle.trip_model.specs.Blocking as spec
use Rattle.trip_model.specs.Links.{blocks_along}
use Rattle.trip_model.specs.Network.{Network}
use Rattle.trip_model.specs.Order.{by_departure}
use Rattle.trip_model.specs.Plain.{trip_moves}
use Rattle.trip_model.specs.Timetable.{TimetableView}

-- the blocks of the links of a plan for a timetable
abbrev pub blocks_in : TimetableView → Plan → List (List ℕ)
blocks_in timetable plan = blocks_along plan.next (by_departure (trip_moves timetable.slots))

-- their empty minutes
abbrev pub minutes_in : TimetableView → MatrixView → Plan → ℕ
minutes_in timetable matrix plan = spec.empty_minutes (network_of timetable matrix) (blocks_in timetable plan)

-- the empty minutes after the trip of a slot, to its next trip or home
abbrev pub minutes_to : Network → ℕ → Option ℕ → ℕ
minutes_to network s None = network.home s
minutes_to network s (Some j) = unwrap_or (network.empty s j) 0

-- the minutes out of the depot to a next trip, where there is one
abbrev pub minutes_out : Network → Option ℕ → ℕ
minutes_out network None = 0
minutes_out network (Some j) = network.out j
