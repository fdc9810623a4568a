-- The printed lines of blocks. `walk` says in how many minutes a vehicle runs empty from place to place.
use Rattle.std.specs.Prelude.{ℕ, zero, suc, ◌-◌, ◌==◌, List, [], ◌∷◌, ◌++◌, length, slice_index, slice_index_or, Option, None, Some}
use Rattle.std.specs.Prelude.{codes, if◌then◌else◌}
use Rattle.std.specs.Fmt.{decimal}
use Rattle.std.specs.List.{flat_map, range_with_len}
use Rattle.gtfs_tables.specs.Times.{minute_digits}
use Rattle.deadhead_matrix.specs.declared.pulls.Pull.{Pull}
use Rattle.deadhead_matrix.specs.Matrix.{MatrixView, walk}
use Rattle.deadhead_matrix.specs.Pulls.{pull_at}
use Rattle.trip_model.specs.Timetable.{TimetableView, Slot, slot_at}
use Rattle.block_build.specs.Names.{block_name}

-- a trip: its name, its departure and its end
unfoldable pub trip_text : Slot → List ℕ
trip_text slot = slot.name ++ codes " " ++ minute_digits slot.trip.departs ++ codes " " ++ minute_digits slot.trip.ends

-- a deadhead that takes time; nothing for one of no minutes, nor where there is no way
unfoldable pub deadhead_text : Option ℕ → List ℕ
deadhead_text None = []
deadhead_text (Some minutes) = if minutes == 0 then [] else codes "dh " ++ decimal minutes ++ codes "; "

-- the minutes in which a vehicle runs empty from the trip of one slot to that of another
abbrev pub walk_between : TimetableView → (ℕ → ℕ → Option ℕ) → ℕ → ℕ → Option ℕ
walk_between timetable walk i j = walk (slot_at timetable i).trip.to (slot_at timetable j).trip.from

-- what is printed between the n-th trip of a block and the one before it; nothing before the first
abbrev pub joint : TimetableView → (ℕ → ℕ → Option ℕ) → List ℕ → ℕ → List ℕ
joint timetable walk block zero = []
joint timetable walk block (suc n) = codes "; "
    ++ deadhead_text (walk_between timetable walk (slice_index block n) (slice_index block (suc n)))

-- the trips of a block, each with what is printed before it
unfoldable pub trips_text : TimetableView → (ℕ → ℕ → Option ℕ) → List ℕ → List ℕ
trips_text timetable walk block =
    flat_map (λ n. joint timetable walk block n ++ trip_text (slot_at timetable (slice_index block n))) (range_with_len 0 (length block))

-- the minutes out of the depot to where the first trip of a block begins
abbrev pub pull_out : TimetableView → List Pull → List ℕ → ℕ
pull_out timetable pulls block = (pull_at pulls (slot_at timetable (slice_index block 0)).trip.from).pull_out

-- the minutes home from where the last trip of a block ends
abbrev pub pull_in : TimetableView → List Pull → List ℕ → ℕ
pull_in timetable pulls block = (pull_at pulls (slot_at timetable (slice_index block (length block - 1))).trip.to).pull_in

-- a way out of the depot that takes time
unfoldable pub pull_out_text : ℕ → List ℕ
pull_out_text minutes = if minutes == 0 then [] else codes "out " ++ decimal minutes ++ codes "; "

-- a way home that takes time
unfoldable pub pull_in_text : ℕ → List ℕ
pull_in_text minutes = if minutes == 0 then [] else codes "; in " ++ decimal minutes

-- the line of a block behind a margin: its name, the way out of the depot, its trips and the way home
unfoldable pub block_line : TimetableView → MatrixView → List ℕ → List ℕ → List ℕ → List ℕ
block_line timetable matrix margin name block =
    margin ++ name ++ codes ": " ++ pull_out_text (pull_out timetable matrix.pulls block)
    ++ trips_text timetable (walk matrix) block
    ++ pull_in_text (pull_in timetable matrix.pulls block) ++ 10 ∷ []

-- rule: the lines of blocks
-- the lines of blocks, in their order, each behind the same margin
unfoldable pub block_text : TimetableView → MatrixView → List ℕ → List (List ℕ) → List (List ℕ) → List ℕ
block_text timetable matrix margin names blocks =
    flat_map (λ number. block_line timetable matrix margin (block_name names number) (slice_index_or blocks number []))
    (range_with_len 0 (length blocks))

-- the line of the prices of a slot, one space before it; none where its trip does not run
unfoldable pub price_line : TimetableView → List ℕ → List ℕ → ℕ → List ℕ
price_line timetable leave enter s =
    if (slot_at timetable s).trip.live
    then codes " price " ++ (slot_at timetable s).name ++ codes " " ++ decimal (slice_index_or leave s 0) ++ codes " "
    ++ decimal (slice_index_or enter s 0) ++ 10 ∷ []
    else []

-- the lines of the prices of the trips that run, slot by slot
unfoldable pub price_text : TimetableView → List ℕ → List ℕ → List ℕ
price_text timetable leave enter = flat_map (price_line timetable leave enter) (range_with_len 0 (length timetable.slots))
