-- The columns of a chart, of ten minutes each.
use Rattle.std.specs.Prelude.{ℕ, ◌≤◌, ◌+◌, ◌-◌, ◌*◌, ◌/◌, min, max, List, [], map, fold, Option}
use Rattle.std.specs.List.{range_with_len, reduce}
use Rattle.std.specs.Option.{option_map_or}
use Rattle.trip_model.specs.declared.trip.Move.{Move}
use Rattle.chart_text.specs.declared.columns.TheConstants.{COLUMN_MINUTES, LAST_COLUMN}

-- the least departure of the moves, if there are any
abbrev pub first_departure : List Move → Option ℕ
first_departure moves = reduce min (map (λ m. m.leaves) moves)

-- the greatest end of the moves, and 0 without moves
abbrev pub last_end : List Move → ℕ
last_end moves = fold max 0 (map (λ m. m.arrives) moves)

-- rule: the columns of a chart
-- the columns in order of number, from that of the first departure to that of the last end, and none without moves
unfoldable pub columns_of : List Move → List ℕ
columns_of moves = option_map_or
    (λ first. range_with_len (first / COLUMN_MINUTES) (last_end moves / COLUMN_MINUTES + 1 - first / COLUMN_MINUTES))
    (first_departure moves) []

-- a column that begins before all trips have ended, or then
abbrev pub IsColumn : ℕ → Type 0
IsColumn column = column ≤ LAST_COLUMN

-- the ten minutes of the column of a number
unfoldable pub minutes_of : ℕ → List ℕ
minutes_of column = range_with_len (COLUMN_MINUTES * column) COLUMN_MINUTES
