-- What a command reads: papers, by their names, and the journal.
use Rattle.std.specs.Prelude.{◌≡◌, ◌≤◌, nat_le, Bool, true, false, List, [], ◌∷◌, length, map, All, Option, None, Some, if◌then◌else◌}
use Rattle.std.specs.Prelude.{Result, Ok, Err}
use Rattle.std.specs.List.{list_any}
use Rattle.std.specs.Str.{bytes_eq}
use Rattle.desk_io.specs.Shelf.{Files, ShelfState, Tells, ReadFailed, found_in}
use Rattle.desk_io.specs.declared.shelf.Found.{Found}
use Rattle.desk_io.specs.declared.shelf.Found.TheVariants.{Missing}
use Rattle.gtfs_tables.specs.Papers.{file_name_of, IsWithinLimit}
use Rattle.gtfs_tables.specs.declared.paper.Paper.{Paper}
use Rattle.gtfs_tables.specs.declared.paper.TheConstants.{MOST_BYTES, MOST_RECORDS}
use Rattle.desk_keeper.specs.Keeper.{Journal, KeeperState, CallFailed}
use Rattle.desk_run.specs.World.{World}
use Rattle.desk_run.specs.declared.fault.RunFault.{RunFault}
use Rattle.desk_run.specs.declared.fault.RunFault.TheVariants as run_fault
use Rattle.desk_run.specs.declared.reading.Loaded.{Loaded}
use Rattle.desk_run.specs.declared.reading.Loaded.TheVariants as loaded
use Rattle.desk_run.specs.declared.reading.Page.{Page}

-- the papers that were read, in their order, and the journal
pub record ReadView : Type 0 where
  pub pages : List Page
  pub journal : Loaded

-- the papers of pages
abbrev pub papers_of : List Page → List Paper
papers_of pages = map (λ page. page.paper) pages

-- two papers are one: they have one name
abbrev pub is_same : Paper → Paper → Bool
is_same a b = bytes_eq (file_name_of a) (file_name_of b)

-- a paper is one of a list
abbrev pub IsAmong : List Paper → Paper → Type 0
IsAmong papers paper = list_any (is_same paper) papers ≡ true

-- what was found of a paper; it is missing where it was not read
abbrev pub found_of : List Page → Paper → Found
found_of [] paper = Missing
found_of (page ∷ pages) paper = if is_same paper page.paper then page.found else found_of pages paper

-- each paper is what the shelf tells of the file of its name, and none is longer than a file may be
pub record AreRead (files : Option Files) (papers : List Paper) (pages : List Page) : Type 0 where
  pub named : papers_of pages ≡ papers
  pub told : All (λ page. Tells files (file_name_of page.paper) MOST_BYTES page.found) pages
  pub within : All (λ page. IsWithinLimit page.found) pages

-- a paper as the files have it, and several papers
abbrev pub page_in : Files → Paper → Page
page_in files paper = record { paper = paper; found = found_in files (file_name_of paper) MOST_BYTES }

abbrev pub pages_in : List Paper → Files → List Page
pages_in papers files = map (page_in files) papers

-- a journal as it is loaded
abbrev pub loaded_in : Journal → Loaded
loaded_in journal = if nat_le (length journal) MOST_RECORDS then loaded.Lines journal else loaded.TooLong

-- a journal that was asked for, and that has no more lines than it may have, where these are known
abbrev pub IsAnswer : Loaded → Type 0
IsAnswer loaded.Unasked = ⊥
IsAnswer (loaded.Lines lines) = length lines ≤ MOST_RECORDS
IsAnswer loaded.TooLong = Unit {0}

-- the journal is not asked for; or it is what the keeper tells; or, of a keeper that tells nothing, any that there may be
abbrev pub IsLoaded : Bool → Option Journal → Loaded → Type 0
IsLoaded false journal answer = answer ≡ loaded.Unasked
IsLoaded true None answer = IsAnswer answer
IsLoaded true (Some journal) answer = answer ≡ loaded_in journal

-- what reading papers does to the shelf: nothing, but where a read failed
abbrev pub ReadsPapers : {T : Type 0} → Result T RunFault → ShelfState → ShelfState → Type 0
ReadsPapers (Ok x) before after = after ≡ before
ReadsPapers (Err run_fault.Memory) before after = after ≡ before
ReadsPapers (Err run_fault.Read) before after = ReadFailed before after
ReadsPapers (Err run_fault.Write) before after = ⊥
ReadsPapers (Err run_fault.Keeper) before after = ⊥

-- what loading the journal does to the keeper: nothing, but where that failed
abbrev pub LoadsJournal : {T : Type 0} → Bool → Result T RunFault → KeeperState → KeeperState → Type 0
LoadsJournal keeps (Ok x) before after = after ≡ before
LoadsJournal keeps (Err run_fault.Memory) before after = after ≡ before
LoadsJournal keeps (Err run_fault.Keeper) before after = (keeps ≡ true) × CallFailed before after
LoadsJournal keeps (Err run_fault.Read) before after = ⊥
LoadsJournal keeps (Err run_fault.Write) before after = ⊥

-- a read failed: the shelf has counted it, and nothing else changed
pub record IsUnread (before after : World) : Type 0 where
  pub shelf : ReadFailed before.shelf after.shelf
  pub sink : after.sink ≡ before.sink
  pub keeper : after.keeper ≡ before.keeper

-- the journal was asked for and not loaded: the keeper has counted it, and nothing else changed
pub record IsUnloaded (keeps : Bool) (before after : World) : Type 0 where
  pub asked : keeps ≡ true
  pub shelf : after.shelf ≡ before.shelf
  pub sink : after.sink ≡ before.sink
  pub keeper : CallFailed before.keeper after.keeper
