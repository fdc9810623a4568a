-- What a run of the program is: that of the command which the words name, or for words of no form the usage line.
use Rattle.std.specs.Prelude.{◌≡◌, ◌⊎◌, ℕ, List, [], ◌∷◌, ◌++◌, codes, Option, None, Some}
use Rattle.desk_io.specs.Faults.{Rose}
use Rattle.desk_io.specs.History.{Call, ComeFirst}
use Rattle.desk_io.specs.Sink.{ArePuts, put_bytes, PutsPrefix}
use Rattle.desk_run.specs.Outside.{Histories, Outside}
use Rattle.desk_run.specs.Performs.{Performs}
use Rattle.desk_run.specs.World.{World, NoCountRose}
use Rattle.desk_run.specs.declared.status.TheConstants.{USAGE, WRITE_FAULT}
use Rattle.desk_program.specs.Commands.{asked_by}
use Rattle.desk_program.specs.declared.command.CommandName.{CommandName}

-- rule: the usage line
-- the line that is put for words of no form, with its line feed
abbrev pub usage_line : List ℕ
usage_line = codes "usage: blockdesk deficits|fixed|blocks|check|write|chart|chains|shifts|keep|kept|joined|planners|audit FOLDER, or blockdesk sample N" ++ 10 ∷ []

-- the usage line was put, or a prefix of it; and nothing else changed
pub record PutsUsage (before after : World) (status : ℕ) : Type 0 where
  pub put : ((status ≡ USAGE) × (after.sink ≡ put_bytes usage_line before.sink))
      ⊎ ((status ≡ WRITE_FAULT) × PutsPrefix usage_line before.sink after.sink)
  pub shelf : after.shelf ≡ before.shelf
  pub keeper : after.keeper ≡ before.keeper

-- words of no form end as such, where no count rose, or by a fault of the sink
abbrev pub HasUsageCause : World → World → ℕ → Type 0
HasUsageCause before after status = ((status ≡ USAGE) × NoCountRose before after)
    ⊎ ((status ≡ WRITE_FAULT) × Rose before.sink.faults after.sink.faults)

-- the puts of the usage line came, all of them or the first ones; and no other call
pub record UsageInOrder (status : ℕ) (before after : Histories) : Type 0 where
  pub puts : List Call
  pub are : ArePuts usage_line [] puts
  pub sink : ComeFirst puts before.sink after.sink
  pub whole : status ≡ USAGE → sink.left ≡ []
  pub shelf : after.shelf ≡ before.shelf
  pub keeper : after.keeper ≡ before.keeper

-- a run of words of no form: it counts no step
pub record ShowsUsage (before after : Outside) (status old new : ℕ) : Type 0 where
  pub run : PutsUsage before.world after.world status
  pub cause : HasUsageCause before.world after.world status
  pub order : UsageInOrder status before.calls after.calls
  pub counted : new ≡ old

-- a run, by the command that its words name
abbrev pub IsRun : Option CommandName → Outside → Outside → ℕ → ℕ → ℕ → Type 0
IsRun None before after status old new = ShowsUsage before after status old new
IsRun (Some command) before after status old new = Performs (asked_by command) before after status old new
