-- A folder without files, and that of examples/depot.
use Rattle.std.specs.Prelude.{ℕ, List, [], ◌∷◌, codes}
use Rattle.desk_io.specs.declared.shelf.Found.{Found}
use Rattle.desk_io.specs.declared.shelf.Found.TheVariants.{File, Missing}
use Rattle.gtfs_tables.specs.declared.paper.Paper.{Paper}
use Rattle.gtfs_tables.specs.declared.paper.Paper.TheVariants.{Trips, StopTimes, Deadheads, Depot}
use Rattle.examples_computed.specs.Claims.{lines_of}

-- no file is there
abbrev pub nothing : Paper → Found
nothing paper = Missing

-- a file of these lines is there
abbrev pub file_of : List (List ℕ) → Found
file_of lines = File (lines_of lines)

-- the files of examples/depot
abbrev pub depot : Paper → Found
depot Trips = file_of (codes "route_id,service_id,trip_id" ∷ codes "R,W,U1" ∷ codes "R,W,U2" ∷ [])
depot StopTimes = file_of (codes "trip_id,arrival_time,departure_time,stop_id,stop_sequence" ∷ codes "U1,06:00:00,06:00:00,A,1"
    ∷ codes "U1,06:30:00,06:30:00,B,2" ∷ codes "U2,07:00:00,07:00:00,C,1" ∷ codes "U2,07:30:00,07:30:00,A,2" ∷ [])
depot Deadheads = file_of (codes "from,to,minutes" ∷ codes "B,C,20" ∷ [])
depot Depot = file_of (codes "terminal,pull_out,pull_in" ∷ codes "A,10,15" ∷ codes "C,7,0" ∷ [])
depot paper = Missing
