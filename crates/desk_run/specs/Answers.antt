-- What the calls of a run answered.
use Rattle.std.specs.Prelude.{Bool, true, false, List, [], ◌∷◌, length, drop, Option, None, Some, option_map}
use Rattle.desk_io.specs.History as loading
use Rattle.desk_io.specs.History.{Call, Read, Load}
use Rattle.gtfs_tables.specs.declared.paper.Paper.{Paper}
use Rattle.desk_run.specs.Commands.{Asked}
use Rattle.desk_run.specs.Outside.{Histories}
use Rattle.desk_run.specs.Reading.{ReadView}
use Rattle.desk_run.specs.declared.reading.Loaded.{Loaded}
use Rattle.desk_run.specs.declared.reading.Loaded.TheVariants as loaded
use Rattle.desk_run.specs.declared.reading.Page.{Page}

-- the calls that came in a run
abbrev pub since : List Call → List Call → List Call
since before after = drop (length before) after

-- the papers with the answers of the first calls, where each of these is a read that was not refused
abbrev pub pages_by : List Paper → List Call → Option (List Page)
pages_by [] calls = Some []
pages_by (paper ∷ papers) (Read name (Some found) ∷ calls) =
    option_map (λ pages. record { paper = paper; found = found } ∷ pages) (pages_by papers calls)
pages_by (paper ∷ papers) calls = None

-- the journal, where it is asked for, by the answer of the first call, where this is a load that was not refused
abbrev pub journal_by : Bool → List Call → Option Loaded
journal_by false calls = Some loaded.Unasked
journal_by true (Load (loading.Lines lines) ∷ calls) = Some (loaded.Lines lines)
journal_by true (Load loading.TooLong ∷ calls) = Some loaded.TooLong
journal_by true calls = None

-- what was read, where both were
abbrev pub both : Option (List Page) → Option Loaded → Option ReadView
both (Some pages) (Some journal) = Some (record { pages = pages; journal = journal })
both pages journal = None

-- rule: what a run has read
-- what a command has read, by what the calls of its run answered; None where a read or the load was refused, or did not come
abbrev pub found_by : Asked → Histories → Histories → Option ReadView
found_by asked before after =
    both (pages_by asked.papers (since before.shelf after.shelf)) (journal_by asked.keeps (since before.keeper after.keeper))
