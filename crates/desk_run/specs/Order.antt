-- In which order a run calls the shelf, the sink and the keeper.
use Rattle.std.specs.Prelude.{◌≡◌, ◌⊎◌, ℕ, ◌<◌, true, List, [], ◌∷◌, ◌++◌, length, fold, map, IfOk, Option, None, Some, Result, Ok, Err}
use Rattle.desk_io.specs.History as loading
use Rattle.desk_io.specs.History.{Call, Read, Write, Put, Load, Append}
use Rattle.desk_io.specs.Sink.{ArePuts}
use Rattle.desk_keeper.specs.Keeper.{Journal}
use Rattle.gtfs_tables.specs.Papers.{file_name_of}
use Rattle.gtfs_tables.specs.declared.paper.Paper.{Paper}
use Rattle.desk_run.specs.Becomes.{Becomes}
use Rattle.desk_run.specs.Commands.{Asked, Chosen}
use Rattle.desk_run.specs.Outcome.{OutcomeView}
use Rattle.desk_run.specs.Outside.{Histories, Outside}
use Rattle.desk_run.specs.Reading.{ReadView, papers_of}
use Rattle.desk_run.specs.declared.fault.RunFault.{RunFault}
use Rattle.desk_run.specs.declared.fault.RunFault.TheVariants as run_fault
use Rattle.desk_run.specs.declared.outcome.Writing.{Writing}
use Rattle.desk_run.specs.declared.reading.Loaded.{Loaded}
use Rattle.desk_run.specs.declared.reading.Loaded.TheVariants as loaded
use Rattle.desk_run.specs.declared.reading.Page.{Page}
use Rattle.desk_run.specs.declared.status.TheConstants.{NO, READ_FAULT, WRITE_FAULT, KEEPER_FAULT, NO_MEMORY}

-- the histories after one more call, which came to the shelf, the sink or the keeper
abbrev pub with_call : Histories → Call → Histories
with_call histories (Read name answer) = record histories { shelf = histories.shelf ++ Read name answer ∷ [] }
with_call histories (Write name bytes) = record histories { shelf = histories.shelf ++ Write name bytes ∷ [] }
with_call histories (Put piece) = record histories { sink = histories.sink ++ Put piece ∷ [] }
with_call histories (Load answer) = record histories { keeper = histories.keeper ++ Load answer ∷ [] }
with_call histories (Append lines) = record histories { keeper = histories.keeper ++ Append lines ∷ [] }

-- the histories after these calls, one after the other
abbrev pub with_calls : Histories → List Call → Histories
with_calls histories calls = fold with_call histories calls

-- the first ones of these calls were made, and no others
pub record MakesFirst (calls : List Call) (before after : Histories) : Type 0 where
  pub made : List Call
  pub left : List Call
  pub order : calls ≡ made ++ left
  pub noted : after ≡ with_calls before made

-- a read of each paper, which answered what was found of it
abbrev pub reads_of : List Page → List Call
reads_of pages = map (λ (page : Page). Read (file_name_of page.paper) (Some page.found)) pages

-- a load of the journal, where it was asked for, which answered what was loaded
abbrev pub load_of : Loaded → List Call
load_of loaded.Unasked = []
load_of (loaded.Lines lines) = Load (loading.Lines lines) ∷ []
load_of loaded.TooLong = Load loading.TooLong ∷ []

-- the calls that read: each paper once, in their order, and then the journal
abbrev pub reading : ReadView → List Call
reading read = reads_of read.pages ++ load_of read.journal

-- the call that is refused where these papers are left to be read: the read of the first one, or where none is left the load
abbrev pub refused_at : List Paper → Call
refused_at [] = Load loading.Refused
refused_at (paper ∷ papers) = Read (file_name_of paper) None

-- of papers that are read one after the other, the first ones were read, and then one was refused
pub record IsRefusedPaper (papers : List Paper) (before after : List Call) : Type 0 where
  pub pages : List Page
  pub paper : Paper
  pub left : List Paper
  pub named : papers ≡ papers_of pages ++ paper ∷ left
  pub noted : after ≡ before ++ (reads_of pages ++ refused_at (paper ∷ left) ∷ [])

-- not all papers were read: one was refused, or no memory was found for them, before any was read
abbrev pub StopsAtPaper : List Paper → List Call → List Call → Type 0
StopsAtPaper papers before after = IsRefusedPaper papers before after ⊎ ((0 < length papers) × (after ≡ before))

-- the first papers were read, and then one read was refused, or after all papers the load of a journal that is asked for
pub record IsRefused (asked : Asked) (before after : Histories) : Type 0 where
  pub pages : List Page
  pub left : List Paper
  pub papers : asked.papers ≡ papers_of pages ++ left
  pub keeps : left ≡ [] → asked.keeps ≡ true
  pub noted : after ≡ with_calls before (reads_of pages ++ refused_at left ∷ [])

-- The calls of a run without an outcome. All was read, and nothing more was done. Or a read or the load was refused. Or no memory was
-- found for the papers, before any was read.
abbrev pub OnlyReads : Asked → Option ReadView → Histories → Histories → Type 0
OnlyReads asked (Some read) before after = after ≡ with_calls before (reading read)
OnlyReads asked None before after = IsRefused asked before after ⊎ ((0 < length asked.papers) × (after ≡ before))

-- a write of each file
abbrev pub writes_of : List Writing → List Call
writes_of writes = map (λ (writing : Writing). Write writing.name writing.bytes) writes

-- an append of the lines, where there are any to append
abbrev pub append_of : Option Journal → List Call
append_of None = []
append_of (Some lines) = Append lines ∷ []

-- the calls that carry an outcome out: its files in their order, its lines, and then its text by these puts
abbrev pub carrying : OutcomeView → List Call → List Call
carrying outcome puts = writes_of outcome.writes ++ (append_of outcome.lines ++ puts)

-- the status of a run, by what it answers or why it did not come to its end
abbrev pub status_by : Result ℕ RunFault → ℕ
status_by (Ok status) = status
status_by (Err run_fault.Read) = READ_FAULT
status_by (Err run_fault.Write) = WRITE_FAULT
status_by (Err run_fault.Keeper) = KEEPER_FAULT
status_by (Err run_fault.Memory) = NO_MEMORY

-- All the calls that read, and then those that carry one outcome of that out: all of them where the run comes to its end, else the
-- first ones. The same outcome became what the world shows.
pub record CarriesInOrder (asked : Asked) (found : Option ReadView) (before after : Outside) (status : ℕ) : Type 0 where
  pub chosen : Chosen asked found before.world
  pub puts : List Call
  pub are : ArePuts chosen.outcome.text [] puts
  pub first : MakesFirst (carrying chosen.outcome puts) (with_calls before.calls (reading chosen.read)) after.calls
  pub result : Result ℕ RunFault
  pub answered : status ≡ status_by result
  pub becomes : Becomes chosen.outcome result before.world after.world
  pub whole : IfOk result (λ end. first.left ≡ [])

-- rule: the order of the calls of a run
-- the calls of a run, in their order; where it has no outcome, it does not come to its end, and makes no call but those that read
abbrev pub IsInOrder : Asked → Option ReadView → Outside → Outside → ℕ → Type 0
IsInOrder asked found before after status =
    ((NO < status) × OnlyReads asked found before.calls after.calls) ⊎ CarriesInOrder asked found before after status

-- what was carried out of an outcome: all its calls were made, or where the answer is a fault the first ones
pub record CallsToCarry {T E : Type 0} (outcome : OutcomeView) (result : Result T E) (before after : Histories) : Type 0 where
  pub puts : List Call
  pub are : ArePuts outcome.text [] puts
  pub first : MakesFirst (carrying outcome puts) before after
  pub whole : IfOk result (λ x. first.left ≡ [])
