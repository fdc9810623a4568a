-- The running boards of blocks, as records of comma-separated fields.
use Rattle.std.specs.Prelude.{ℕ, List, [], ◌∷◌, length, map, slice_index_or, Option, None, Some, codes}
use Rattle.std.specs.List.{flat_map, range_with_len}
use Rattle.gtfs_tables.specs.Times.{minute_digits}
use Rattle.gtfs_tables.specs.Writing.{records_text}
use Rattle.trip_model.specs.Timetable.{TimetableView, place_at, slot_at}
use Rattle.deadhead_matrix.specs.Matrix.{MatrixView}
use Rattle.block_build.specs.Names.{block_name}
use Rattle.joined_deficits.specs.declared.legs.Leg.{Leg}
use Rattle.joined_deficits.specs.Joined.{legs_of}

-- the header of `boards.csv`
abbrev pub board_header : List (List ℕ)
board_header = codes "block_id" ∷ codes "kind" ∷ codes "trip_id" ∷ codes "from" ∷ codes "leaves" ∷ codes "to" ∷ codes "arrives" ∷ []

-- what the vehicle does on a leg
abbrev pub kind_of : Option ℕ → List ℕ
kind_of None = codes "dh"
kind_of (Some s) = codes "trip"

-- the name of the trip of a leg; empty where the vehicle runs empty
abbrev pub trip_of : TimetableView → Option ℕ → List ℕ
trip_of timetable None = []
trip_of timetable (Some s) = (slot_at timetable s).name

-- the record of a leg: the names of block and trip, what the vehicle does, and where and when it leaves and arrives
abbrev pub board_record : TimetableView → List ℕ → Leg → List (List ℕ)
board_record timetable name leg =
    name ∷ kind_of leg.slot ∷ trip_of timetable leg.slot ∷ (place_at timetable leg.way.from).name ∷ minute_digits leg.way.leaves
    ∷ (place_at timetable leg.way.to).name ∷ minute_digits leg.way.arrives ∷ []

-- the records of a block of that name, leg by leg
abbrev pub board_of_block : TimetableView → MatrixView → List ℕ → List ℕ → List (List (List ℕ))
board_of_block timetable matrix name block = map (board_record timetable name) (legs_of timetable matrix block)

-- the records of blocks, block by block
unfoldable pub board_records : TimetableView → MatrixView → List (List ℕ) → List (List ℕ) → List (List (List ℕ))
board_records timetable matrix names blocks =
    flat_map (λ number. board_of_block timetable matrix (block_name names number) (slice_index_or blocks number []))
    (range_with_len 0 (length blocks))

-- rule: the text of `boards.csv`
-- word: board = running board, paddle
-- the text of `boards.csv`
unfoldable pub boards_text : TimetableView → MatrixView → List (List ℕ) → List (List ℕ) → List ℕ
boards_text timetable matrix names blocks = records_text (board_header ∷ board_records timetable matrix names blocks)
