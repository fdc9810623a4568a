-- What a vehicle saves along a walk, by what the pairs of one slot share.
use Rattle.std.specs.Prelude.{◌≡◌, ℕ, ◌+◌, ◌-◌, ◌<◌, ◌≤◌, nat_le, length, Option, None, Some, if◌then◌else◌}
use Rattle.assignment_model.specs.declared.limits.TheConstants.{MOST_DEADHEAD, VEHICLE_WEIGHT}
use Rattle.deadhead_matrix.specs.Pulls.{pull_at}
use Rattle.trip_model.specs.Plain.{move_at}
use Rattle.trip_model.specs.declared.limits.TheConstants.{LAST_MINUTE}
use Rattle.trip_model.specs.declared.trip.Move.{Move}
use Rattle.pair_graph.specs.declared.share.Share.{Share}
use Rattle.pair_graph.specs.Pairs.{PairsView}

-- What is saved with a trip at the other end of a walk: the pulls of both ends and a vehicle, less the walk. The trip needs a
-- vehicle at a minute, and where the walk ends later, none can make it.
abbrev pub saved_along : Share → ℕ → Option ℕ → ℕ → Option ℕ
saved_along share pull None minute = None
saved_along share pull (Some walk) minute = if nat_le (share.ready + walk) minute then Some (share.saved + pull - walk) else None

-- what the pairs of each slot with one share: its move, when that leaves, seen backward, and a vehicle's weight with the pull-out
-- to where it begins
pub record IsColumn (pairs : PairsView) (slot : ℕ) (after : Move) (share : Share) : Type 0 where
  pub within : slot < length pairs.moves
  pub made : move_at pairs.moves slot ≡ Some after
  pub begins : after.from < length pairs.matrix.walks
  pub leaves : after.leaves ≤ LAST_MINUTE
  pub ready : share.ready ≡ LAST_MINUTE - after.leaves
  pub weighed : share.saved ≡ VEHICLE_WEIGHT + (pull_at pairs.matrix.pulls after.from).pull_out
  pub bounded : share.saved ≤ VEHICLE_WEIGHT + MOST_DEADHEAD
