-- What the pairs of a timetable are seen as.
use Rattle.std.specs.Prelude.{◌≡◌, ℕ, ◌+◌, ◌<◌, ◌≤◌, Bool, List, [], length, slice_index_or, slice_set, Option, None, Some, if◌then◌else◌}
use Rattle.assignment_model.specs.declared.limits.TheConstants.{MOST_DEADHEAD, VEHICLE_WEIGHT}
use Rattle.deadhead_matrix.specs.Fitting.{deadhead_network, name_at, ruled_network}
use Rattle.deadhead_matrix.specs.Matrix.{MatrixView}
use Rattle.deadhead_matrix.specs.Pulls.{pull_at}
use Rattle.trip_model.specs.Network.{Network}
use Rattle.trip_model.specs.Plain.{move_at, trip_moves}
use Rattle.trip_model.specs.Timetable.{TimetableView, slot_names}
use Rattle.pair_rules.specs.Rules.{keeps_first, keeps_second, names_first, names_second}
use Rattle.trip_model.specs.declared.limits.TheConstants.{LAST_MINUTE}
use Rattle.trip_model.specs.declared.trip.Move.{Move}
use Rattle.pair_graph.specs.declared.share.Share.{Share}

-- the names of the slots and their moves, and the walks between their places with the pulls of these and the rules of pairs
pub record PairsView : Type 0 where
  pub names : List (List ℕ)
  pub moves : List (Option Move)
  pub matrix : MatrixView

-- the moves but that of one slot, which does not run
abbrev pub moves_without : List (Option Move) → Option ℕ → List (Option Move)
moves_without moves None = moves
moves_without moves (Some slot) = slice_set moves slot None

-- the pairs of a timetable and a matrix without a slot
abbrev pub pairs_of : TimetableView → MatrixView → Option ℕ → PairsView
pairs_of timetable matrix without = record {
  names = slot_names timetable;
  moves = moves_without (trip_moves timetable.slots) without;
  matrix = matrix;
}

-- rule: which trips fit
-- a vehicle goes on from a trip to every one that it can reach in time along a least walk, and that the rules allow
abbrev pub pairs_network : PairsView → Network
pairs_network pairs = ruled_network pairs.names pairs.moves pairs.matrix

-- the same without the rules
abbrev pub walks_network : PairsView → Network
walks_network pairs = deadhead_network pairs.moves pairs.matrix

-- some rule has the trip of a slot as its first or, seen backward, as its second
abbrev pub is_ruled : PairsView → Bool → ℕ → Bool
is_ruled pairs turned s =
    if turned then names_second pairs.matrix.rules (name_at pairs.names s) else names_first pairs.matrix.rules (name_at pairs.names s)

-- some keep has the trip of a slot as its second or, seen backward, as its first
abbrev pub is_kept : PairsView → Bool → ℕ → Bool
is_kept pairs turned s =
    if turned then keeps_first pairs.matrix.rules (name_at pairs.names s) else keeps_second pairs.matrix.rules (name_at pairs.names s)

-- the pull-out to a place or, seen backward, the pull-in from there
abbrev pub pairs_pull : PairsView → Bool → ℕ → ℕ
pairs_pull pairs turned place =
    if turned then (pull_at pairs.matrix.pulls place).pull_in else (pull_at pairs.matrix.pulls place).pull_out

-- the pairs of one slot with each, and what they share
pub record RowView : Type 0 where
  pub pairs : PairsView
  pub slot : ℕ
  pub share : Share

-- what the pairs of a slot share: its move, the walks from where that ends, when it arrives, and a vehicle's weight with the
-- minutes home from there
pub record IsRow (pairs : PairsView) (slot : ℕ) (before : Move) (walks : List (Option ℕ)) (share : Share) : Type 0 where
  pub within : slot < length pairs.moves
  pub made : move_at pairs.moves slot ≡ Some before
  pub led : walks ≡ slice_index_or pairs.matrix.walks before.to []
  pub places : length walks ≡ length pairs.matrix.walks
  pub arrives : before.arrives ≤ LAST_MINUTE
  pub ready : share.ready ≡ before.arrives
  pub weighed : share.saved ≡ VEHICLE_WEIGHT + (pull_at pairs.matrix.pulls before.to).pull_in
  pub bounded : share.saved ≤ VEHICLE_WEIGHT + MOST_DEADHEAD
