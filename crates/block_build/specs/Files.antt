-- The written texts of blocks and of prices, as records of comma-separated fields.
use Rattle.std.specs.Prelude.{ℕ, zero, suc, List, [], ◌∷◌, length, map, slice_index, slice_index_or, unwrap_or, if◌then◌else◌}
use Rattle.std.specs.Fmt.{decimal}
use Rattle.std.specs.List.{flat_map, range_with_len}
use Rattle.gtfs_tables.specs.Papers.{column_name_of}
use Rattle.gtfs_tables.specs.Writing.{records_text}
use Rattle.gtfs_tables.specs.declared.paper.Column.TheVariants as column
use Rattle.deadhead_matrix.specs.Matrix.{MatrixView, walk}
use Rattle.trip_model.specs.Timetable.{TimetableView, slot_at}
use Rattle.block_build.specs.Lines.{walk_between, pull_out}
use Rattle.block_build.specs.Names.{block_name}

-- the header of `blocks.csv`, and that of `prices.csv`
abbrev pub block_header : List (List ℕ)
block_header = column_name_of column.BlockId ∷ column_name_of column.TripId ∷ column_name_of column.Deadhead ∷ []

abbrev pub price_header : List (List ℕ)
price_header = column_name_of column.TripId ∷ column_name_of column.Leave ∷ column_name_of column.Enter ∷ []

-- the empty minutes before the n-th trip of a block: those out of the depot, or those from the trip before
abbrev pub minutes_before : TimetableView → MatrixView → List ℕ → ℕ → ℕ
minutes_before timetable matrix block zero = pull_out timetable matrix.pulls block
minutes_before timetable matrix block (suc n) =
    unwrap_or (walk_between timetable (walk matrix) (slice_index block n) (slice_index block (suc n))) 0

-- the record of the n-th trip of a block: the name of the block, that of the trip, and the empty minutes before it
abbrev pub block_record : TimetableView → MatrixView → List ℕ → List ℕ → ℕ → List (List ℕ)
block_record timetable matrix name block n =
    name ∷ (slot_at timetable (slice_index block n)).name ∷ decimal (minutes_before timetable matrix block n) ∷ []

-- the records of a block of that name, trip by trip
abbrev pub records_of_block : TimetableView → MatrixView → List ℕ → List ℕ → List (List (List ℕ))
records_of_block timetable matrix name block = map (block_record timetable matrix name block) (range_with_len 0 (length block))

-- the records of blocks, block by block
unfoldable pub block_records : TimetableView → MatrixView → List (List ℕ) → List (List ℕ) → List (List (List ℕ))
block_records timetable matrix names blocks =
    flat_map (λ number. records_of_block timetable matrix (block_name names number) (slice_index_or blocks number []))
    (range_with_len 0 (length blocks))

-- rule: the text of `blocks.csv`
-- the text of `blocks.csv`
unfoldable pub blocks_text : TimetableView → MatrixView → List (List ℕ) → List (List ℕ) → List ℕ
blocks_text timetable matrix names blocks = records_text (block_header ∷ block_records timetable matrix names blocks)

-- the record of a slot: the name of its trip and its two prices; none where the trip does not run
abbrev pub price_record : TimetableView → List ℕ → List ℕ → ℕ → List (List (List ℕ))
price_record timetable leave enter s =
    if (slot_at timetable s).trip.live
    then ((slot_at timetable s).name ∷ decimal (slice_index_or leave s 0) ∷ decimal (slice_index_or enter s 0) ∷ []) ∷ []
    else []

-- the records of the trips that run, slot by slot
unfoldable pub price_records : TimetableView → List ℕ → List ℕ → List (List (List ℕ))
price_records timetable leave enter = flat_map (price_record timetable leave enter) (range_with_len 0 (length timetable.slots))

-- rule: the text of `prices.csv`
-- the text of `prices.csv`
unfoldable pub prices_text : TimetableView → List ℕ → List ℕ → List ℕ
prices_text timetable leave enter = records_text (price_header ∷ price_records timetable leave enter)
