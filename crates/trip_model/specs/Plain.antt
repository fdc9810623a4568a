-- Vehicles that never run empty, and vehicles that need no minute to get anywhere. A list says of each slot which move
-- its trip makes, and None where it does not run.
use Rattle.std.specs.Prelude.{◌≡◌, ℕ, ◌<◌, ◌≤◌, ◌==◌, ◌&&◌, nat_le, Bool, false, List, length, map, filter, slice_index_or, Option, None}
use Rattle.std.specs.Prelude.{Some, is_some, if◌then◌else◌}
use Rattle.std.specs.List.{filter_map, range_with_len}
use Rattle.trip_model.specs.declared.limits.TheConstants.{LAST_MINUTE}
use Rattle.trip_model.specs.Network.{Network}
use Rattle.trip_model.specs.Timetable.{Slot}
use Rattle.trip_model.specs.Trip.{move_of}
use Rattle.trip_model.specs.declared.trip.Move.{Move}

-- the move of a slot; none past the last slot
abbrev pub move_at : List (Option Move) → ℕ → Option Move
move_at moves s = slice_index_or moves s None

-- the moves that are made, in order of slot
abbrev pub made : List (Option Move) → List Move
made moves = filter_map (λ m. m) moves

-- a vehicle that makes the first move waits, as the second begins, where that begins
abbrev pub meets : Option Move → Option Move → Bool
meets (Some a) (Some b) = (a.to == b.from) && nat_le a.arrives b.leaves
meets _ _ = false

-- word: fixed, plain = fixed schedule, without deadheads
-- a vehicle goes on from a trip that ends, in time, where the next one begins, and runs no minute empty
abbrev pub plain_network : List (Option Move) → Network
plain_network moves = record {
  live = λ s. is_some (move_at moves s);
  empty = λ i j. if meets (move_at moves i) (move_at moves j) then Some 0 else None;
  out = λ _. 0;
  home = λ _. 0;
}

-- the move of a slot, where its trip runs
abbrev pub move_of_slot : Slot → Option Move
move_of_slot slot = if slot.trip.live then Some (move_of slot.trip) else None

-- the moves of the trips of a timetable
abbrev pub trip_moves : List Slot → List (Option Move)
trip_moves slots = map move_of_slot slots

-- the slots that run, in order of number
abbrev pub live_slots : List (Option Move) → List ℕ
live_slots moves = filter (λ s. is_some (move_at moves s)) (range_with_len 0 (length moves))

-- the second move begins at or after the end of the first, wherever that is
abbrev pub is_in_time : Option Move → Option Move → Bool
is_in_time (Some a) (Some b) = nat_le a.arrives b.leaves
is_in_time _ _ = false

-- a vehicle could go on to every trip that begins in time, if it needed no minute to get there
abbrev pub timely_network : List (Option Move) → Network
timely_network moves = record {
  live = λ s. is_some (move_at moves s);
  empty = λ i j. if is_in_time (move_at moves i) (move_at moves j) then Some 0 else None;
  out = λ _. 0;
  home = λ _. 0;
}

-- a move between two of so many places, which takes time and arrives on the service day
pub record IsMove (places : ℕ) (m : Move) : Type 0 where
  pub from : m.from < places
  pub to : m.to < places
  pub forward : m.leaves < m.arrives
  pub in_day : m.arrives ≤ LAST_MINUTE

-- each move that is made is such a move
pub record AreMoves (places : ℕ) (moves : List (Option Move)) : Type 0 where
  pub each : (s : ℕ) (m : Move) → move_at moves s ≡ Some m → IsMove places m
