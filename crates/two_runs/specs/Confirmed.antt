-- `blocks`, and a `check` of what it wrote, at once or later.
use Rattle.std.specs.Prelude.{◌≡◌, ◌≢◌, ℕ, ◌≤◌, List, ◌++◌, Some}
use Rattle.desk_io.specs.Shelf.{Files, found_in}
use Rattle.desk_io.specs.Sink.{put_bytes}
use Rattle.desk_io.specs.declared.shelf.Found.TheVariants.{TooLong}
use Rattle.gtfs_tables.specs.Papers.{file_name_of}
use Rattle.gtfs_tables.specs.declared.paper.Paper.{Paper}
use Rattle.gtfs_tables.specs.declared.paper.Paper.TheVariants as paper
use Rattle.gtfs_tables.specs.declared.paper.TheConstants.{MOST_BYTES}
use Rattle.desk_run.specs.Outside.{Outside}
use Rattle.desk_run.specs.Performs.{Performs}
use Rattle.desk_run.specs.Reading.{pages_in}
use Rattle.desk_run.specs.World.{World}
use Rattle.desk_run.specs.declared.status.TheConstants.{DONE, EDITS_REFUSED, NO}
use Rattle.desk_feed.specs.Numbers.{numbers_line}
use Rattle.blocks_command.specs.Blocks.{blocks_asked}
use Rattle.plan_commands.specs.Check.{check_asked, claim_papers, yes_line}

-- the file of a paper is not longer than a file may be
abbrev pub IsShort : Files → Paper → Type 0
IsShort files paper = found_in files (file_name_of paper) MOST_BYTES ≢ TooLong

-- Later files have each paper of `check` as the run of `blocks` left it. Other files may have changed.
abbrev pub StandAgain : Files → Files → Type 0
StandAgain left found = pages_in claim_papers found ≡ pages_in claim_papers left

-- The check says yes to what `blocks` wrote: it puts the vehicles and the empty minutes that `blocks` put last. Before them
-- `blocks` put an answer for each record of the script, and the check puts the lines of the refused records.
pub record IsConfirmed (before left later after : World) (second : ℕ) : Type 0 where
  pub answers : List ℕ
  pub refused : List ℕ
  pub fixed : ℕ
  pub vehicles : ℕ
  pub minutes : ℕ
  pub yes : second ≡ DONE
  pub planned : left.sink ≡ put_bytes (answers ++ numbers_line fixed vehicles minutes) before.sink
  pub checked : after.sink ≡ put_bytes (refused ++ yes_line vehicles minutes) later.sink

-- It is so where three things hold. `blocks` did all, perhaps with refused edits, and the check came to its end. Both shelves
-- tell their files. Neither of the two files is too long.
abbrev pub Confirms : World → World → World → World → ℕ → ℕ → Type 0
Confirms before left later after first second =
    first ≤ EDITS_REFUSED → second ≤ NO → (files found : Files) → left.shelf.files ≡ Some files → later.shelf.files ≡ Some found
    → StandAgain files found
    → IsShort files paper.Blocks → IsShort files paper.Prices → IsConfirmed before left later after second

-- A run of `blocks`, and one of `check` that begins in the world which the first left. Each is all that its command promises when
-- it runs alone, and the second confirms the first.
pub record RunsInTurn (before after : Outside) (first second old new : ℕ) : Type 0 where
  pub between : Outside
  pub steps : ℕ
  pub blocks : Performs blocks_asked before between first old steps
  pub check : Performs check_asked between after second steps new
  pub confirmed : Confirms before.world between.world between.world after.world first second
