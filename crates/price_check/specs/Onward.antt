-- What the ways on from a trip are seen as.
use Rattle.std.specs.Prelude.{◌≡◌, ℕ, ◌+◌, ◌≤◌, List, [], length, slice_index_or, Option}
use Rattle.assignment_model.specs.declared.limits.TheConstants.{MOST_DEADHEAD, VEHICLE_WEIGHT}
use Rattle.deadhead_matrix.specs.Matrix.{MatrixView}
use Rattle.deadhead_matrix.specs.Pulls.{pull_at}
use Rattle.price_check.specs.Claim.{Runs}
use Rattle.trip_model.specs.Timetable.{TimetableView, slot_at}

-- the ways on from the trip of a slot
pub record OnwardView : Type 0 where
  pub timetable : TimetableView
  pub matrix : MatrixView
  pub slot : ℕ

-- what they share: the trip runs, and from where it ends there are the walks, and a vehicle's weight with the minutes home
pub record IsOnward (timetable : TimetableView) (matrix : MatrixView) (slot ends : ℕ) (walks : List (Option ℕ)) (saved : ℕ) : Type 0 where
  pub places : length timetable.places ≡ length matrix.walks
  pub runs : Runs timetable slot
  pub ended : ends ≡ (slot_at timetable slot).trip.ends
  pub led : walks ≡ slice_index_or matrix.walks (slot_at timetable slot).trip.to []
  pub reach : length walks ≡ length matrix.walks
  pub weighed : saved ≡ VEHICLE_WEIGHT + (pull_at matrix.pulls (slot_at timetable slot).trip.to).pull_in
  pub bounded : saved ≤ VEHICLE_WEIGHT + MOST_DEADHEAD
