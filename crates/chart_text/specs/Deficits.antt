-- The chart of deficits, where d is a function of the place and of the minute.
use Rattle.std.specs.Prelude.{ℕ, ◌+◌, ◌*◌, nat_le, List, [], ◌∷◌, ◌++◌, map, fold, slice_index_or, ℤ, pos, negsuc, if◌then◌else◌, codes}
use Rattle.std.specs.Int.{int_max}
use Rattle.std.specs.List.{flat_map, enumerate_from}
use Rattle.gtfs_tables.specs.Times.{minute_digits}
use Rattle.trip_model.specs.Deficit.{live_moves}
use Rattle.trip_model.specs.Timetable.{TimetableView, place_names}
use Rattle.chart_text.specs.declared.columns.TheConstants.{COLUMN_MINUTES}
use Rattle.chart_text.specs.Columns.{columns_of, minutes_of}

-- the value at a minute in a list of values, one for each minute from 0 on
abbrev pub value_in : List ℤ → ℕ → ℤ
value_in values minute = slice_index_or values minute (pos 0)

-- the greatest value of d in the minutes of a column
unfoldable pub greatest_in : (ℕ → ℤ) → ℕ → ℤ
greatest_in d column = fold int_max (d (COLUMN_MINUTES * column)) (map d (minutes_of column))

-- rule: the marks of a chart
-- a value as one character: its digit from 0 to 9, `+` above 9 and `-` below 0
abbrev pub mark_of : ℤ → ℕ
mark_of (pos n) = if nat_le n 9 then 48 + n else 43
mark_of (negsuc n) = 45

-- the line of a place: the mark of the greatest value in each column, a space and the place's name
unfoldable pub place_line : List ℕ → List ℕ → (ℕ → ℤ) → List ℕ
place_line columns name d = map (λ c. mark_of (greatest_in d c)) columns ++ codes " " ++ name ++ 10 ∷ []

-- the first minute of the first column, and then the line of each place in order of number; without columns, that there are no trips
unfoldable pub chart_of : List ℕ → List (List ℕ) → (ℕ → ℕ → ℤ) → List ℕ
chart_of [] names d = codes "no trips" ++ 10 ∷ []
chart_of (first ∷ rest) names d =
    codes "chart from " ++ minute_digits (COLUMN_MINUTES * first) ++ 10 ∷ []
    ++ flat_map (λ place. place_line (first ∷ rest) place.1 (d place.0)) (enumerate_from 0 names)

-- the chart of the places of a timetable, over the columns of its trips that run
abbrev pub deficit_chart_text : TimetableView → (ℕ → ℕ → ℤ) → List ℕ
deficit_chart_text timetable d = chart_of (columns_of (live_moves timetable.slots)) (place_names timetable) d
