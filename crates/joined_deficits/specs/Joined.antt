-- Joined moves: the trips of blocks, and the deadheads between them that take time.
use Rattle.std.specs.Prelude.{ℕ, ◌+◌, ◌<◌, ◌==◌, List, [], ◌∷◌, ◌++◌, map, All, Option, None, Some, if◌then◌else◌}
use Rattle.std.specs.List.{flat_map}
use Rattle.trip_model.specs.declared.trip.Move.{Move}
use Rattle.trip_model.specs.Timetable.{TimetableView, slot_at}
use Rattle.trip_model.specs.Trip.{move_of}
use Rattle.deadhead_matrix.specs.declared.entry.Entry.{Entry}
use Rattle.deadhead_matrix.specs.Matrix.{MatrixView, walk}
use Rattle.joined_deficits.specs.declared.legs.Leg.{Leg}

-- the leg of a trip
abbrev pub trip_leg : TimetableView → ℕ → Leg
trip_leg timetable s = record { slot = Some s; way = move_of (slot_at timetable s).trip }

-- A vehicle that runs empty for so many minutes from the end of one move to the start of another. It leaves when the first
-- ends. It makes no move where it needs no minute, nor where there is no way.
abbrev pub empty_move : Move → Move → Option ℕ → Option Move
empty_move a b None = None
empty_move a b (Some minutes) = if minutes == 0 then None
    else Some (record { from = a.to; to = b.from; leaves = a.arrives; arrives = a.arrives + minutes })

-- the deadhead from the end of the trip of i to the start of that of j, along a least walk
abbrev pub deadhead_between : TimetableView → MatrixView → ℕ → ℕ → Option Move
deadhead_between timetable matrix i j =
    empty_move (move_of (slot_at timetable i).trip) (move_of (slot_at timetable j).trip)
    (walk matrix (slot_at timetable i).trip.to (slot_at timetable j).trip.from)

-- the leg of a deadhead, where there is one
abbrev pub deadhead_legs : Option Move → List Leg
deadhead_legs None = []
deadhead_legs (Some way) = record { slot = None; way = way } ∷ []

-- the legs of a block after its trip of i: before each trip the deadhead to it
abbrev pub legs_after : TimetableView → MatrixView → ℕ → List ℕ → List Leg
legs_after timetable matrix i [] = []
legs_after timetable matrix i (j ∷ js) = deadhead_legs (deadhead_between timetable matrix i j) ++ trip_leg timetable j
    ∷ legs_after timetable matrix j js

-- the legs of a block, trip by trip
abbrev pub legs_of : TimetableView → MatrixView → List ℕ → List Leg
legs_of timetable matrix [] = []
legs_of timetable matrix (i ∷ js) = trip_leg timetable i ∷ legs_after timetable matrix i js

-- the legs of blocks, block by block
abbrev pub legs_in : TimetableView → MatrixView → List (List ℕ) → List Leg
legs_in timetable matrix blocks = flat_map (legs_of timetable matrix) blocks

-- the moves of legs
abbrev pub ways : List Leg → List Move
ways legs = map (λ leg. leg.way) legs

-- rule: the deadheads that are put into the deficits
-- the moves of the vehicles of blocks, with the deadheads put in
unfoldable pub joined_moves : TimetableView → MatrixView → List (List ℕ) → List Move
joined_moves timetable matrix blocks = ways (legs_in timetable matrix blocks)

-- every entry takes time
abbrev pub TakeTime : List Entry → Type 0
TakeTime entries = All (λ e. 0 < e.minutes) entries
