-- The names of the trips of a feed.
use Rattle.std.specs.Prelude.{◌≡◌, All, Ok}
use Rattle.desk_io.specs.declared.shelf.Found.{Found}
use Rattle.gtfs_tables.specs.declared.paper.Paper.{Paper}
use Rattle.block_build.specs.Names.{IsName}
use Rattle.desk_feed.specs.Feed.{FeedView, said_by, standing}

-- of an accepted feed each name of a trip that stands after the script is a text that has a byte
abbrev pub TripsAreNamed : Type 0
TripsAreNamed = (found : Paper → Found) (said : FeedView) → said_by found ≡ Ok said → All (λ slot. IsName slot.name) (standing said).slots
