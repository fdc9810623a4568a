-- Plans for a timetable and a matrix, and their blocks.
use Rattle.std.specs.Prelude.{◌≡◌, ℕ, List, length}
use Rattle.assignment_model.specs.Prices.{Plan, IsCertified}
use Rattle.deadhead_matrix.specs.Fitting.{network_of}
use Rattle.deadhead_matrix.specs.Matrix.{MatrixView}
use Rattle.trip_model.specs.Blocking.{IsLeast}
use Rattle.trip_model.specs.Links.{blocks_along}
use Rattle.trip_model.specs.Order.{by_departure}
use Rattle.trip_model.specs.Plain.{trip_moves}
use Rattle.trip_model.specs.Timetable.{TimetableView}

-- a plan for a timetable and a matrix: of as many slots, and certified for the network of their moves and walks
pub record IsPlanFor (timetable : TimetableView) (matrix : MatrixView) (plan : Plan) : Type 0 where
  pub slots : length plan.next ≡ length timetable.slots
  pub certified : IsCertified (network_of timetable matrix) plan

-- A plan that its prices prove, and the blocks along its links, in order of departure. They are least: no blocking, also with
-- deadheads, has fewer vehicles, and none with as few has fewer empty minutes.
pub record IsScheduled (timetable : TimetableView) (matrix : MatrixView) (plan : Plan) (blocks : List (List ℕ)) : Type 0 where
  pub certified : IsPlanFor timetable matrix plan
  pub along : blocks ≡ blocks_along plan.next (by_departure (trip_moves timetable.slots))
  pub least : IsLeast (network_of timetable matrix) blocks
