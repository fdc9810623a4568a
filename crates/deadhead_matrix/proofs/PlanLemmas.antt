-- The blocks of a plan for a timetable and a matrix.
use Rattle.std.proofs.Common.{length, All, sym, ◌∙◌, arith}
use Rattle.std.proofs.lemmas.List.{length-map}
use Rattle.trip_model.specs.Blocking.{IsLeast}
use Rattle.trip_model.specs.Links.{blocks_along}
use Rattle.trip_model.specs.Order.{minute_left, by_departure}
use Rattle.trip_model.specs.Plain.{move_at, move_of_slot, trip_moves}
use Rattle.trip_model.specs.Timetable.{TimetableView, slot_names, IsTimetable}
use Rattle.trip_model.proofs.OrderLemmas.{StandsOnce-by_departure}
use Rattle.trip_model.proofs.PlainLemmas.{AreMoves-trips}
use Rattle.deadhead_matrix.specs.Fitting.{network_of}
use Rattle.deadhead_matrix.specs.Matrix.{MatrixView}
use Rattle.assignment_model.specs.Prices.{Plan}
use Rattle.deadhead_matrix.specs.Plans.{IsPlanFor}
use Rattle.deadhead_matrix.specs.Pulls.{IsPull}
use Rattle.deadhead_matrix.proofs.Days.{AreDepartures-ruled, IsDay-ruled}
use Rattle.assignment_model.proofs.Duality.{IsLeast-certified}

pub IsLeast-plan : (t : TimetableView) (matrix : MatrixView) (plan : Plan) → IsTimetable t → All IsPull matrix.pulls
    → IsPlanFor t matrix plan
    → IsLeast (network_of t matrix) (blocks_along plan.next (by_departure (trip_moves t.slots)))
IsLeast-plan t matrix plan valid pulls proved =
    let moves = trip_moves t.slots in
    let are = AreMoves-trips t valid in
    let size = length-map t.slots move_of_slot in
    IsLeast-certified (network_of t matrix) (length moves) plan (λ s. minute_left (move_at moves s))
    (IsDay-ruled (length t.places) (slot_names t) moves matrix are pulls (omega (arith, size, valid.slots)))
    (proved.slots ∙ sym size) proved.certified (AreDepartures-ruled (length t.places) (slot_names t) moves matrix are) (by_departure moves)
    (StandsOnce-by_departure moves)
