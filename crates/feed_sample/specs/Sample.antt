-- The files of a sample of so many trips, byte for byte.
use Rattle.std.specs.Prelude.{ℕ, zero, suc, ◌+◌, ◌-◌, ◌*◌, ◌/◌, ◌%◌, ◌==◌, List, [], ◌∷◌, ◌++◌, codes, nat_lt, if◌then◌else◌}
use Rattle.std.specs.Fmt.{decimal}
use Rattle.std.specs.FinMap.{empty, insert}
use Rattle.desk_io.specs.Shelf.{Files}
use Rattle.gtfs_tables.specs.Papers.{file_name_of}
use Rattle.gtfs_tables.specs.Times.{minute_digits}
use Rattle.gtfs_tables.specs.declared.paper.Paper.TheVariants as paper

-- when the trip of a number departs, and how long it takes
abbrev pub departure : ℕ → ℕ
departure i = 300 + (37 * i) % 900

abbrev pub running_time : ℕ → ℕ
running_time i = 20 + 10 * (i % 4)

-- the record of a trip
unfoldable pub trip_line : ℕ → List ℕ
trip_line i = codes "R,W,S" ++ (decimal i ++ 10 ∷ [])

-- the record of a stop of a trip: its arrival and its departure are at the same minute
unfoldable pub stop_line : ℕ → ℕ → ℕ → ℕ → List ℕ
stop_line i minute place sequence =
    codes "S" ++ (decimal i ++ (codes ","
    ++ (minute_digits minute ++ (codes ":00,"
    ++ (minute_digits minute ++ (codes ":00,P" ++ (decimal place ++ (codes "," ++ (decimal sequence ++ 10 ∷ [])))))))))

-- the records of the two stops of a trip
unfoldable pub stop_lines : ℕ → List ℕ
stop_lines i = stop_line i (departure i) (i % 8) 1 ++ stop_line i (departure i + running_time i) ((3 * i + 1) % 8) 2

-- how far two numbers are from each other
abbrev pub distance : ℕ → ℕ → ℕ
distance a b = (a - b) + (b - a)

-- the record of the deadhead between two places; from a place to itself there is none
unfoldable pub deadhead_line : ℕ → ℕ → List ℕ
deadhead_line a b = if a == b then []
    else codes "P" ++ (decimal a ++ (codes ",P" ++ (decimal b ++ (codes "," ++ (decimal (5 + 2 * distance a b) ++ 10 ∷ [])))))

-- the records of so many of the first trips, and of so many of the first pairs of places
unfoldable pub trip_lines_to : ℕ → List ℕ
trip_lines_to zero = []
trip_lines_to (suc i) = trip_lines_to i ++ trip_line i

unfoldable pub stop_lines_to : ℕ → List ℕ
stop_lines_to zero = []
stop_lines_to (suc i) = stop_lines_to i ++ stop_lines i

unfoldable pub deadhead_lines_to : ℕ → List ℕ
deadhead_lines_to zero = []
deadhead_lines_to (suc n) = deadhead_lines_to n ++ deadhead_line (n / 8) (n % 8)

-- the texts of the files
abbrev pub trips_text : ℕ → List ℕ
trips_text trips = codes "route_id,service_id,trip_id" ++ 10 ∷ [] ++ trip_lines_to trips

abbrev pub stop_times_text : ℕ → List ℕ
stop_times_text trips = codes "trip_id,arrival_time,departure_time,stop_id,stop_sequence" ++ 10 ∷ [] ++ stop_lines_to trips

abbrev pub deadheads_text : List ℕ
deadheads_text = codes "from,to,minutes" ++ 10 ∷ [] ++ deadhead_lines_to 64

abbrev pub edits_text : List ℕ
edits_text = codes "cancel,S0" ++ 10 ∷ codes "undo" ++ 10 ∷ []

-- the files, with a script where there is a trip
abbrev pub feed_files : ℕ → Files
feed_files trips =
    insert (insert (insert empty (file_name_of paper.Trips) (trips_text trips)) (file_name_of paper.StopTimes) (stop_times_text trips))
    (file_name_of paper.Deadheads) deadheads_text

-- rule: the feed of a sample
abbrev pub sample_files : ℕ → Files
sample_files trips = if nat_lt 0 trips then insert (feed_files trips) (file_name_of paper.Edits) edits_text else feed_files trips
