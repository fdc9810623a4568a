-- What a command asks: what it reads, and what it may then do.
use Rattle.std.specs.Prelude.{◌≡◌, ℕ, ◌+◌, ◌≤◌, Bool, false, List, Option, None, Some}
use Rattle.gtfs_tables.specs.declared.paper.Paper.{Paper}
use Rattle.desk_run.specs.Outcome.{OutcomeView, status_of}
use Rattle.desk_run.specs.Reading.{ReadView, AreRead, IsLoaded}
use Rattle.desk_run.specs.World.{World}
use Rattle.desk_run.specs.declared.status.Ending.{Ending}

-- The papers that it reads, in their order. Whether it reads the journal besides; only then may it append to it. How it ends
-- after what it has read, which outcomes it may give of that, and how many steps it may count then.
pub record Asked : Type 1 where
  pub papers : List Paper
  pub keeps : Bool
  pub Ends : ReadView → Ending → Type 0
  pub Gives : ReadView → OutcomeView → Type 0
  pub most : ReadView → ℕ

-- an outcome that a command gives of what it has read
pub record IsGiven (asked : Asked) (read : ReadView) (outcome : OutcomeView) : Type 0 where
  pub gives : asked.Gives read outcome
  pub ends : asked.Ends read outcome.ending
  pub unkept : asked.keeps ≡ false → outcome.lines ≡ None

-- what a command reads of the world: what is in it, where the world tells that
pub record IsReadIn (asked : Asked) (world : World) (read : ReadView) : Type 0 where
  pub pages : AreRead world.shelf.files asked.papers read.pages
  pub journal : IsLoaded asked.keeps world.keeper.journal read.journal

-- the one outcome of a command that a run carries out of what it has read, whole or in part
pub record Chosen (asked : Asked) (found : Option ReadView) (before : World) : Type 0 where
  pub read : ReadView
  pub is : found ≡ Some read
  pub told : IsReadIn asked before read
  pub outcome : OutcomeView
  pub given : IsGiven asked read outcome

-- a status is that of an ending to which what was read leads
pub record IsEnding (asked : Asked) (found : Option ReadView) (status : ℕ) : Type 0 where
  pub read : ReadView
  pub is : found ≡ Some read
  pub ending : Ending
  pub ends : asked.Ends read ending
  pub answered : status ≡ status_of ending

-- no more steps were counted than what was read allows; where not all was read, none was
abbrev pub IsCounted : Asked → Option ReadView → ℕ → ℕ → Type 0
IsCounted asked None old new = new ≡ old
IsCounted asked (Some read) old new = new ≤ old + asked.most read
