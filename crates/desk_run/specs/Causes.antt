-- When each status of a command comes.
use Rattle.std.specs.Prelude.{◌≡◌, ◌≢◌, ◌⊎◌, ℕ, ◌≤◌, true, Option}
use Rattle.desk_io.specs.Faults.{Rose}
use Rattle.desk_run.specs.Commands.{Asked, IsEnding}
use Rattle.desk_run.specs.Reading.{ReadView}
use Rattle.desk_run.specs.World.{World, NoCountRose, NoFaultCounted}
use Rattle.desk_run.specs.declared.status.TheConstants.{USAGE, NO, READ_FAULT, WRITE_FAULT, KEEPER_FAULT, NO_MEMORY}

-- rule: when a status comes
pub record HasCause (asked : Asked) (found : Option ReadView) (before after : World) (status : ℕ) : Type 0 where
  -- the status of an ending to which what was read leads
  pub ended : status ≤ NO → IsEnding asked found status
  -- the status of words of no form is no command's
  pub no_usage : status ≢ USAGE
  -- a read failed
  pub read_fault : status ≡ READ_FAULT → Rose before.shelf.read_faults after.shelf.read_faults
  -- a write or a put failed
  pub write_fault : status ≡ WRITE_FAULT
      → Rose before.shelf.write_faults after.shelf.write_faults ⊎ Rose before.sink.faults after.sink.faults
  -- the keeper failed, of a command that asks for the journal
  pub keeper_fault : status ≡ KEEPER_FAULT → (asked.keeps ≡ true) × Rose before.keeper.faults after.keeper.faults
  -- no fault is passed over
  pub quiet : status ≤ NO → NoCountRose before after
  pub no_other : (status ≤ NO) ⊎ (status ≡ READ_FAULT) ⊎ (status ≡ WRITE_FAULT) ⊎ (status ≡ KEEPER_FAULT) ⊎ (status ≡ NO_MEMORY)

-- which status comes where no fault was counted
abbrev pub IsComplete : Asked → Option ReadView → World → World → ℕ → Type 0
IsComplete asked found before after status = NoFaultCounted before after → IsEnding asked found status ⊎ (status ≡ NO_MEMORY)
