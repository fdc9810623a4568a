-- The numbers of a timetable, by a plan from scratch.
use Rattle.std.specs.Prelude.{◌≡◌, ℕ, List, length, pos}
use Rattle.trip_model.specs.Blocking.{IsFewest, empty_minutes}
use Rattle.trip_model.specs.Deficit.{deficit, live_moves}
use Rattle.trip_model.specs.Maximum.{sum_of_maxima}
use Rattle.trip_model.specs.Plain.{plain_network, trip_moves}
use Rattle.trip_model.specs.Timetable.{TimetableView}
use Rattle.deadhead_matrix.specs.Fitting.{network_of}
use Rattle.deadhead_matrix.specs.Matrix.{MatrixView}
use Rattle.assignment_model.specs.Prices.{Plan}
use Rattle.desk_feed.specs.Numbers.{numbers_line}
use Rattle.deadhead_matrix.specs.Plans.{IsScheduled}

-- They are those of a timetable. The blocks of a plan are least over all blockings. Blocks without deadheads are fewest among
-- such blocks, and as many as the sum of the maxima of the deficits. They follow no rules of pairs.
pub record IsNumbered (timetable : TimetableView) (matrix : MatrixView) (numbers : List ℕ) : Type 0 where
  pub plan : Plan
  pub blocks : List (List ℕ)
  pub scheduled : IsScheduled timetable matrix plan blocks
  pub without : List (List ℕ)
  pub fewest : IsFewest (plain_network (trip_moves timetable.slots)) without
  pub maxima : pos (length without) ≡ sum_of_maxima (deficit (live_moves timetable.slots)) (length timetable.places)
  pub put : numbers ≡ numbers_line (length without) (length blocks) (empty_minutes (network_of timetable matrix) blocks)
