-- The timetable and the matrix of examples/depot, and a claim for it.
use Rattle.std.specs.Prelude.{ℕ, List, [], ◌∷◌, ◌++◌, codes, pos, true, false, None, Some}
use Rattle.std.specs.List.{flat_map}
use Rattle.assignment_model.specs.Prices.{Plan}
use Rattle.deadhead_matrix.specs.Matrix.{MatrixView}
use Rattle.price_check.specs.Claim.{ClaimedView}
use Rattle.trip_model.specs.Place.{terminal_place}
use Rattle.trip_model.specs.Timetable.{TimetableView}

-- U1 from A at 06:00 to B at 06:30, and U2 from C at 07:00 to A at 07:30
abbrev pub two_trips : TimetableView
two_trips = record {
  classed = false;
  places = terminal_place (codes "A") 0 ∷ terminal_place (codes "B") 0 ∷ terminal_place (codes "C") 0 ∷ [];
  slots = record {
    name = codes "U1";
    trip = record { from = 0; to = 1; departs = 360; ends = 390; offset = pos 0; early = 0; late = 0; live = true };
  } ∷ record {
    name = codes "U2";
    trip = record { from = 2; to = 0; departs = 420; ends = 450; offset = pos 0; early = 0; late = 0; live = true };
  } ∷ [];
  early = 0;
  late = 0;
}

-- 20 minutes from B to C; from the depot 10 minutes to A and 7 to C, and 15 home from A
abbrev pub one_deadhead : MatrixView
one_deadhead = record {
  entries = record { from = 1; to = 2; minutes = 20 } ∷ [];
  walks = (Some 0 ∷ None ∷ None ∷ []) ∷ (None ∷ Some 0 ∷ Some 20 ∷ []) ∷ (None ∷ None ∷ Some 0 ∷ []) ∷ [];
  pulls = record { pull_out = 10; pull_in = 15 } ∷ record { pull_out = 0; pull_in = 0 } ∷ record { pull_out = 7; pull_in = 0 } ∷ [];
  rules = [];
}

-- the plan for them: the second trip follows the first, and leaving the first has the price of their link
abbrev pub one_plan : Plan
one_plan = record { next = Some 1 ∷ None ∷ []; leave = 67108851 ∷ 0 ∷ []; enter = 0 ∷ 0 ∷ [] }

-- a file of these lines
abbrev pub lines_of : List (List ℕ) → List ℕ
lines_of lines = flat_map (λ line. line ++ 10 ∷ []) lines

-- the two files that are written of the plan
abbrev pub blocks_file : List ℕ
blocks_file = lines_of (codes "block_id,trip_id,deadhead" ∷ codes "B1,U1,10" ∷ codes "B1,U2,20" ∷ [])

abbrev pub prices_file : List ℕ
prices_file = lines_of (codes "trip_id,leave,enter" ∷ codes "U1,67108851,0" ∷ codes "U2,0,0" ∷ [])

-- both trips in one block, with these empty minutes before the second, and prices of leaving the first
abbrev pub claimed : ℕ → ClaimedView
claimed minutes = record {
  blocks = record { block = 0; trip = codes "U1"; slot = Some 0; deadhead = 10 }
      ∷ record { block = 0; trip = codes "U2"; slot = Some 1; deadhead = minutes } ∷ [];
  prices = record { trip = codes "U1"; slot = Some 0; leave = 67108851; enter = 0 }
      ∷ record { trip = codes "U2"; slot = Some 1; leave = 0; enter = 0 } ∷ [];
}
