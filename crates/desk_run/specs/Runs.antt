-- What the run of a command does to the world.
use Rattle.std.specs.Prelude.{◌≡◌, ◌⊎◌, ℕ, ◌≤◌, IfSome, Option, Result, Ok, Err}
use Rattle.desk_run.specs.Becomes.{done, EndsAtFile, EndsAtText, EndsAtLines, EndsForMemory}
use Rattle.desk_run.specs.Commands.{Asked, Chosen, IsCounted, IsReadIn}
use Rattle.desk_run.specs.Outcome.{status_of}
use Rattle.desk_run.specs.Reading.{ReadView, IsUnread, IsUnloaded}
use Rattle.desk_run.specs.World.{World}
use Rattle.desk_run.specs.declared.fault.RunFault.{RunFault}
use Rattle.desk_run.specs.declared.fault.RunFault.TheVariants as run_fault
use Rattle.desk_run.specs.declared.status.TheConstants.{NO, READ_FAULT, WRITE_FAULT, KEEPER_FAULT, NO_MEMORY}

-- the run came to its end: all of one outcome is done, and the status is that of its ending
pub record HasEnded (asked : Asked) (found : Option ReadView) (before after : World) (status : ℕ) : Type 0 where
  pub chosen : Chosen asked found before
  pub answered : status ≡ status_of chosen.outcome.ending
  pub carried : after ≡ done chosen.outcome before

-- a write of one outcome failed: at one of its files, or at its text
abbrev pub IsCutShort : Asked → Option ReadView → World → World → Type 0
IsCutShort asked found before after = (chosen : Chosen asked found before)
    × (EndsAtFile chosen.outcome before after ⊎ EndsAtText chosen.outcome before after)

-- the journal was not loaded, or the lines of one outcome were not appended
abbrev pub IsUnkept : Asked → Option ReadView → World → World → Type 0
IsUnkept asked found before after = IsUnloaded asked.keeps before after
    ⊎ ((chosen : Chosen asked found before) × EndsAtLines chosen.outcome before after)

-- memory was wanted: nothing has changed, but that files of one outcome may be whole
abbrev pub IsStopped : Asked → Option ReadView → World → World → Type 0
IsStopped asked found before after = (after ≡ before) ⊎ ((chosen : Chosen asked found before) × EndsForMemory chosen.outcome before after)

-- the run, by what it answers or why it did not come to its end
abbrev pub Attempts : Asked → Option ReadView → Result ℕ RunFault → World → World → Type 0
Attempts asked found (Ok status) before after = HasEnded asked found before after status
Attempts asked found (Err run_fault.Read) before after = IsUnread before after
Attempts asked found (Err run_fault.Write) before after = IsCutShort asked found before after
Attempts asked found (Err run_fault.Keeper) before after = IsUnkept asked found before after
Attempts asked found (Err run_fault.Memory) before after = IsStopped asked found before after

-- the run, by its status
pub record RunsAs (asked : Asked) (found : Option ReadView) (before after : World) (status : ℕ) : Type 0 where
  pub ended : status ≤ NO → HasEnded asked found before after status
  pub read_fault : status ≡ READ_FAULT → IsUnread before after
  pub write_fault : status ≡ WRITE_FAULT → IsCutShort asked found before after
  pub keeper_fault : status ≡ KEEPER_FAULT → IsUnkept asked found before after
  pub no_memory : status ≡ NO_MEMORY → IsStopped asked found before after
  pub no_other : (status ≤ NO) ⊎ (status ≡ READ_FAULT) ⊎ (status ≡ WRITE_FAULT) ⊎ (status ≡ KEEPER_FAULT) ⊎ (status ≡ NO_MEMORY)

-- what a run has read, where it has read all, and what it did and counted by it
pub record Follows (asked : Asked) (before : World) (Does : Option ReadView → Type 0) (old new : ℕ) : Type 0 where
  pub found : Option ReadView
  pub told : IfSome found (IsReadIn asked before)
  pub does : Does found
  pub counted : IsCounted asked found old new
