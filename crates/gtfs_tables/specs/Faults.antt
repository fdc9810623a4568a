-- The printed lines of refused files.
use Rattle.std.specs.Prelude.{ℕ, List, [], ◌∷◌, ◌++◌, codes}
use Rattle.gtfs_tables.specs.declared.fault.FeedFault.{FeedFault}
use Rattle.gtfs_tables.specs.declared.fault.FeedFault.TheVariants as fault
use Rattle.std.specs.Fmt.{decimal}
use Rattle.gtfs_tables.specs.declared.paper.Paper.{Paper}
use Rattle.gtfs_tables.specs.declared.paper.Paper.TheVariants as paper
use Rattle.gtfs_tables.specs.Papers.{file_name_of, column_name_of}

-- what is printed of a record
abbrev pub record_text_of : Paper → ℕ → List ℕ → List ℕ
record_text_of paper number what = file_name_of paper ++ (codes " record " ++ (decimal number ++ (codes ": " ++ what)))

-- what is printed of a trip
abbrev pub trip_text_of : List ℕ → List ℕ → List ℕ
trip_text_of trip what = codes "stop_times.txt: trip " ++ (trip ++ (codes " " ++ what))

-- what is printed of a refused file; of lack of memory nothing is
abbrev pub fault_text_of : FeedFault → List ℕ
fault_text_of (fault.Missing paper) = file_name_of paper ++ codes ": missing"
fault_text_of (fault.TooLong paper) = file_name_of paper ++ codes ": too long"
fault_text_of (fault.NoHeader paper) = file_name_of paper ++ codes ": no header"
fault_text_of (fault.RowTooLong paper number) = record_text_of paper number (codes "too many fields")
fault_text_of (fault.NoColumn paper column) = file_name_of paper ++ (codes ": no column " ++ column_name_of column)
fault_text_of (fault.NotUtf8 paper number column) = record_text_of paper number (column_name_of column ++ codes " not UTF-8")
fault_text_of (fault.EmptyField paper number column) = record_text_of paper number (codes "empty " ++ column_name_of column)
fault_text_of (fault.BadNumber paper number column) = record_text_of paper number (codes "bad " ++ column_name_of column)
fault_text_of (fault.BadTime paper number column) = record_text_of paper number (codes "bad " ++ column_name_of column)
fault_text_of (fault.DuplicateRow paper number) = record_text_of paper number (codes "duplicate")
fault_text_of fault.NotToml = codes "desk.toml: not TOML"
fault_text_of (fault.BadSettings key) = codes "desk.toml: bad " ++ key
fault_text_of (fault.SameTerminal number) = record_text_of paper.Deadheads number (codes "same terminal")
fault_text_of (fault.SameTrip number) = record_text_of paper.Pairs number (codes "same trip")
fault_text_of (fault.BadRule number) = record_text_of paper.Pairs number (codes "bad rule")
fault_text_of (fault.TooManyTrips number) = record_text_of paper.Trips number (codes "too many trips")
fault_text_of (fault.TooManyPlaces paper) = file_name_of paper ++ codes ": too many places"
fault_text_of (fault.TooFewStops trip) = trip_text_of trip (codes "has too few stops")
fault_text_of (fault.DuplicateSequence trip) = trip_text_of trip (codes "has a sequence twice")
fault_text_of (fault.NoTime trip) = trip_text_of trip (codes "has no time at an end")
fault_text_of (fault.NotForward trip) = trip_text_of trip (codes "not forward")
fault_text_of (fault.TooManyRecords paper) = file_name_of paper ++ codes ": too many records"
fault_text_of fault.Memory = []

-- rule: the text of a refusal
-- the whole line of a refused file, with its line feed
abbrev pub feed_line_of : FeedFault → List ℕ
feed_line_of refused = codes "feed refused: " ++ fault_text_of refused ++ 10 ∷ []
