-- Which refusal of a feed is the first.
use Rattle.std.specs.Prelude.{◌≡◌, ◌⊎◌, Result, Ok, Err}
use Rattle.desk_io.specs.declared.shelf.Found.{Found}
use Rattle.gtfs_tables.specs.declared.fault.FeedFault.{FeedFault}
use Rattle.gtfs_tables.specs.declared.paper.Paper.{Paper}
use Rattle.gtfs_tables.specs.declared.paper.Paper.TheVariants as paper
use Rattle.desk_settings.specs.Desk.{desk_of}
use Rattle.desk_settings.specs.Settings.{settings_with}
use Rattle.desk_settings.specs.Terminals.{terminals_of}
use Rattle.desk_settings.specs.Tolerances.{tolerances_of}
use Rattle.feed_read.specs.Base.{timetable_of}
use Rattle.feed_read.specs.FeedTrips.{feed_trips_in}
use Rattle.feed_read.specs.Trips.{trips_in}
use Rattle.desk_feed.specs.Feed.{deadheads_in, lines_in, pulls_in, rules_in, selection_in}

-- A refusal is that of this file; or this file is accepted, and of what it says a later part of the feed is refused so.
abbrev pub RefusedAt : {A : Type 0} → Result A FeedFault → FeedFault → (A → Type 0) → Type 0
RefusedAt {A} file refused Later = (file ≡ Err refused) ⊎ ((said : A) × (file ≡ Ok said) × Later said)

-- A refusal is the first: it is that of a file, and each file before it is accepted. The files stand in the order in which they are
-- judged. The two calendars are judged together, and are accepted where there is no date. The places of all trips are counted
-- behind `stop_times.txt`.
abbrev pub IsFirst : (Paper → Found) → FeedFault → Type 0
IsFirst found refused =
    RefusedAt (desk_of (found paper.Settings)) refused λ desk.
    RefusedAt (terminals_of (found paper.Terminals)) refused λ terminals.
    RefusedAt (tolerances_of (found paper.Tolerances)) refused λ tolerances.
    RefusedAt (selection_in found (settings_with desk terminals tolerances)) refused λ settings.
    RefusedAt (trips_in settings (found paper.Trips)) refused λ selected.
    RefusedAt (feed_trips_in settings selected (found paper.StopTimes)) refused λ feed_trips.
    RefusedAt (timetable_of settings feed_trips) refused λ timetable.
    RefusedAt (deadheads_in found timetable) refused λ deadheads.
    RefusedAt (pulls_in found deadheads.0) refused λ pulls.
    RefusedAt (rules_in found) refused λ rules.
    lines_in found ≡ Err refused
