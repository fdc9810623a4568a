-- `write`, and then `audit` over the written feed.
use Rattle.std.specs.Prelude.{◌≡◌, ◌≢◌, ℕ, ◌≤◌, List, [], ◌∷◌, ◌++◌, length, IfSome, Option, None, Ok, codes}
use Rattle.std.specs.FinMap.{get}
use Rattle.std.specs.List.{AllByRecursion}
use Rattle.csv.specs.Reading.{strip_bom}
use Rattle.desk_io.specs.History.{Call}
use Rattle.desk_io.specs.Shelf.{Files, ShelfState, found_in}
use Rattle.desk_io.specs.Sink.{SinkState, put_bytes}
use Rattle.desk_io.specs.declared.shelf.Found.TheVariants.{TooLong}
use Rattle.gtfs_tables.specs.Papers.{file_name_of}
use Rattle.gtfs_tables.specs.Reading.{table_in}
use Rattle.gtfs_tables.specs.Table.{TableView}
use Rattle.gtfs_tables.specs.declared.paper.Paper.{Paper}
use Rattle.gtfs_tables.specs.declared.paper.Paper.TheVariants as paper
use Rattle.gtfs_tables.specs.declared.paper.TheConstants.{MOST_BYTES}
use Rattle.written_laws.specs.Written.{AreWritable}
use Rattle.written_laws.specs.Planned.{AllRun}
use Rattle.desk_keeper.specs.Keeper.{KeeperState}
use Rattle.desk_run.specs.Outside.{Outside}
use Rattle.desk_run.specs.Performs.{Performs}
use Rattle.desk_run.specs.Reading.{found_of, pages_in}
use Rattle.desk_run.specs.declared.status.TheConstants.{DONE, EDITS_REFUSED, NO}
use Rattle.desk_feed.specs.Feed.{FeedView, feed_papers, said_by, standing}
use Rattle.write_command.specs.Write.{stop_times_name, trips_name, write_asked}
use Rattle.audit_command.specs.Audit.{audit_asked}
use Rattle.audit_command.specs.Lines.{cost_line}

-- the papers of a feed beside its trips, its stop times and its script
abbrev pub other_papers : List Paper
other_papers = paper.Settings ∷ paper.Terminals ∷ paper.Tolerances ∷ paper.Calendar ∷ paper.CalendarDates ∷ paper.Deadheads ∷ paper.Depot
    ∷ paper.Pairs ∷ []

-- The written feed is laid. What was written has the names of the trips and of the stop times. There is no script, and every
-- other paper is as it was.
pub record IsLaid (written laid : Files) : Type 0 where
  pub trips : get laid (file_name_of paper.Trips) ≡ get written trips_name
  pub stop_times : get laid (file_name_of paper.StopTimes) ≡ get written stop_times_name
  pub edits : get laid (file_name_of paper.Edits) ≡ None
  pub others : AllByRecursion (λ p. get laid (file_name_of p) ≡ get written (file_name_of p)) other_papers

-- a written file is not longer than a file may be, and does not begin with a byte-order mark
pub record IsReadable (written : Files) (name : List ℕ) : Type 0 where
  pub short : found_in written name MOST_BYTES ≢ TooLong
  pub unmarked : IfSome (get written name) (λ bytes. strip_bom bytes ≡ bytes)

-- the script of a feed adds no trip and leaves none cancelled, and moves no time to 100:00:00 or later
pub record IsWholeAfter (said : FeedView) (stop_times : TableView) : Type 0 where
  pub no_extras : length (standing said).slots ≡ length said.base.slots
  pub runs : AllRun (standing said)
  pub times : AreWritable stop_times (standing said) (length said.base.slots)

-- what is written of such a feed can be audited
pub record CanBeAudited (files written : Files) : Type 0 where
  pub trips : IsReadable written trips_name
  pub stop_times : IsReadable written stop_times_name
  pub whole : (said : FeedView) (stop_times : TableView) → said_by (found_of (pages_in feed_papers files)) ≡ Ok said
      → table_in paper.StopTimes (found_in files (file_name_of paper.StopTimes) MOST_BYTES) ≡ Ok stop_times → IsWholeAfter said stop_times

-- the text of an audit that finds blocks least, which have so many vehicles and empty minutes
abbrev pub least_text : ℕ → ℕ → List ℕ
least_text vehicles minutes = cost_line vehicles minutes ++ (codes "least " ++ (cost_line vehicles minutes ++ (codes "least" ++ 10 ∷ [])))

-- a run of `audit` finds them least: it says so, and nothing else
pub record FindsLeast (before after : SinkState) (status : ℕ) : Type 0 where
  pub vehicles : ℕ
  pub minutes : ℕ
  pub done : status ≡ DONE
  pub put : after ≡ put_bytes (least_text vehicles minutes) before

-- It is so where three things hold. The first run has written all, perhaps with refused edits. The written feed is laid and can
-- be audited. The second run came to its end.
abbrev pub FindsWrittenLeast : Option Files → Option Files → Option Files → SinkState → SinkState → ℕ → ℕ → Type 0
FindsWrittenLeast files written laid before after first second =
    first ≤ EDITS_REFUSED → second ≤ NO
    → IfSome files (λ files. IfSome written
    (λ written. IfSome laid (λ laid. IsLaid written laid → CanBeAudited files written → FindsLeast before after second)))

-- The first run is one of `write`, which leaves this shelf, and the second one of `audit` over another. The second begins with
-- sink and keeper as the first has left them, and with the calls that came to each. Each of the two is all that the command
-- promises when it runs alone. And the second finds least what the first has written.
pub record WritesAndAudits (before : Outside) (written : ShelfState) (written_calls : List Call) (laid : ShelfState)
    (laid_calls : List Call) (after : Outside) (first second old new : ℕ) : Type 0 where
  pub sink : SinkState
  pub sink_calls : List Call
  pub keeper : KeeperState
  pub keeper_calls : List Call
  pub steps : ℕ
  pub write : Performs write_asked before
      (record {
        world = record { shelf = written; sink = sink; keeper = keeper };
        calls = record { shelf = written_calls; sink = sink_calls; keeper = keeper_calls };
      }) first old steps
  pub audit : Performs audit_asked
      (record {
        world = record { shelf = laid; sink = sink; keeper = keeper };
        calls = record { shelf = laid_calls; sink = sink_calls; keeper = keeper_calls };
      }) after second steps new
  pub least : FindsWrittenLeast before.world.shelf.files written.files laid.files sink after.world.sink first second
