-- The chart of blocks, each a list of slots, where `walk` says in how many minutes a vehicle runs empty from place to place.
use Rattle.std.specs.Prelude.{ℕ, ◌+◌, Bool, ◌&&◌, nat_le, nat_lt, List, [], ◌∷◌, ◌++◌, map, drop, zip, Option, unwrap_or, if◌then◌else◌}
use Rattle.std.specs.Prelude.{codes}
use Rattle.std.specs.List.{flat_map, enumerate_from, list_any}
use Rattle.trip_model.specs.Deficit.{live_moves}
use Rattle.trip_model.specs.Timetable.{TimetableView, slot_at}
use Rattle.block_build.specs.Lines.{walk_between}
use Rattle.block_build.specs.Names.{block_name}
use Rattle.chart_text.specs.Columns.{columns_of, minutes_of}

-- some minute of the column is at or after `from` and before `to`
unfoldable pub has_minute : ℕ → ℕ → ℕ → Bool
has_minute column from to = list_any (λ t. nat_le from t && nat_lt t to) (minutes_of column)

-- in some minute of the column the trip of a slot runs: it has departed and has not ended
abbrev pub is_running : TimetableView → ℕ → ℕ → Bool
is_running timetable column slot = let trip = (slot_at timetable slot).trip in has_minute column trip.departs trip.ends

-- the links of a block: each slot with the one after it
abbrev pub links : List ℕ → List (ℕ × ℕ)
links block = zip block (drop 1 block)

-- in some minute of the column a vehicle runs empty along a link: its first trip has ended, the walk to the second has not
abbrev pub is_walking : TimetableView → (ℕ → ℕ → Option ℕ) → ℕ → ℕ × ℕ → Bool
is_walking timetable walk column link =
    let ends = (slot_at timetable link.0).trip.ends in
    has_minute column ends (ends + unwrap_or (walk_between timetable walk link.0 link.1) 0)

-- rule: the marks of a chart
-- a block in a column as one character: `#` where one of its trips runs, else `~` where its vehicle runs empty along a link, else `.`
abbrev pub block_mark : TimetableView → (ℕ → ℕ → Option ℕ) → List ℕ → ℕ → ℕ
block_mark timetable walk block column =
    if list_any (is_running timetable column) block then 35
    else (if list_any (is_walking timetable walk column) (links block) then 126 else 46)

-- the line of a block of that name: its mark in each column, a space and its name
unfoldable pub block_line : TimetableView → (ℕ → ℕ → Option ℕ) → List ℕ → List ℕ → List ℕ → List ℕ
block_line timetable walk columns name block = map (block_mark timetable walk block) columns ++ codes " " ++ name ++ 10 ∷ []

-- the lines of the blocks in their order, over the columns of the trips that run
unfoldable pub block_chart_text : TimetableView → (ℕ → ℕ → Option ℕ) → List (List ℕ) → List (List ℕ) → List ℕ
block_chart_text timetable walk names blocks =
    flat_map (λ block. block_line timetable walk (columns_of (live_moves timetable.slots)) (block_name names block.0) block.1)
    (enumerate_from 0 blocks)
