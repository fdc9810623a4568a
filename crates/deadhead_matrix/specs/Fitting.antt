-- Which trips one vehicle can make one after the other where it may run empty in between.
use Rattle.std.specs.Prelude.{ℕ, ◌+◌, nat_le, List, [], Option, None, Some, is_some, slice_index_or, if◌then◌else◌}
use Rattle.pair_rules.specs.Rules.{PairRule, allows}
use Rattle.trip_model.specs.Network.{Network}
use Rattle.trip_model.specs.Plain.{move_at, trip_moves}
use Rattle.trip_model.specs.Timetable.{TimetableView, slot_names}
use Rattle.trip_model.specs.declared.trip.Move.{Move}
use Rattle.deadhead_matrix.specs.declared.pulls.Pull.{Pull}
use Rattle.deadhead_matrix.specs.Matrix.{MatrixView, walk}
use Rattle.deadhead_matrix.specs.Pulls.{pull_at}

-- the minutes of a walk between two moves, where they leave time for it
abbrev pub in_time : Move → Move → Option ℕ → Option ℕ
in_time a b None = None
in_time a b (Some minutes) = if nat_le (a.arrives + minutes) b.leaves then Some minutes else None

-- the minutes in which a vehicle runs empty from the end of one move to the start of another, where it arrives in time
abbrev pub empty_between : (ℕ → ℕ → Option ℕ) → Option Move → Option Move → Option ℕ
empty_between walk (Some a) (Some b) = in_time a b (walk a.to b.from)
empty_between walk _ _ = None

-- the minutes out of the depot to where a move begins; 0 where there is no move
abbrev pub out_before : List Pull → Option Move → ℕ
out_before pulls None = 0
out_before pulls (Some m) = (pull_at pulls m.from).pull_out

-- the minutes home from where a move ends; 0 where there is no move
abbrev pub home_after : List Pull → Option Move → ℕ
home_after pulls None = 0
home_after pulls (Some m) = (pull_at pulls m.to).pull_in

-- rule: which trips fit
-- a vehicle goes on from a trip to every trip that it can reach in time along a least walk. It comes from the depot and goes
-- back to it by the pulls
abbrev pub deadhead_network : List (Option Move) → MatrixView → Network
deadhead_network moves matrix = record {
  live = λ s. is_some (move_at moves s);
  empty = λ i j. empty_between (walk matrix) (move_at moves i) (move_at moves j);
  out = λ s. out_before matrix.pulls (move_at moves s);
  home = λ s. home_after matrix.pulls (move_at moves s);
}

-- the name of a slot; past the last one no name
abbrev pub name_at : List (List ℕ) → ℕ → List ℕ
name_at names s = slice_index_or names s []

-- rule: which trips fit where rules of pairs forbid some
-- a network in which a vehicle goes on from a trip only to those that rules allow after it, by the names of their slots
abbrev pub allowed_network : List PairRule → List (List ℕ) → Network → Network
allowed_network rules names network = record network {
  empty = λ i j. if allows rules (name_at names i) (name_at names j) then network.empty i j else None;
}

-- the network of moves that trips of these names make, with a matrix and its rules
abbrev pub ruled_network : List (List ℕ) → List (Option Move) → MatrixView → Network
ruled_network names moves matrix = allowed_network matrix.rules names (deadhead_network moves matrix)

-- rule: the network of a timetable and a matrix
-- the network of a timetable and a matrix: that of the trips of its slots
abbrev pub network_of : TimetableView → MatrixView → Network
network_of timetable matrix = ruled_network (slot_names timetable) (trip_moves timetable.slots) matrix
