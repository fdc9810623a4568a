-- From what its parts do to the run of a command.
use Rattle.std.proofs.Common.{◌≡◌, ℕ, inl, inr, Bool, Option, None, Result, Ok, Err, refl, sym, ◌∙◌}
use Rattle.desk_io.specs.Shelf.{ShelfState}
use Rattle.desk_keeper.specs.Keeper.{KeeperState}
use Rattle.desk_run.specs.Becomes.{Becomes, WritesAll}
use Rattle.desk_run.specs.Outcome.{OutcomeView}
use Rattle.desk_run.specs.Commands.{Asked, Chosen}
use Rattle.desk_run.specs.Reading.{LoadsJournal, ReadView, ReadsPapers}
use Rattle.desk_run.specs.Runs.{Attempts}
use Rattle.desk_run.specs.World.{World}
use Rattle.desk_run.specs.declared.fault.RunFault.{RunFault}
use Rattle.desk_run.specs.declared.fault.RunFault.TheVariants as run_fault

-- an outcome was carried out
pub carried : (asked : Asked) (found : Option ReadView) (before after : World) (chosen : Chosen asked found before)
    (result : Result ℕ RunFault) → Becomes chosen.outcome result before after
    → Attempts asked found result before after
carried asked found before after chosen (Ok status) becomes = record { chosen = chosen; answered = becomes.0; carried = becomes.1 }
carried asked found before after chosen (Err run_fault.Write) becomes = (chosen, becomes)
carried asked found before after chosen (Err run_fault.Keeper) becomes = inr (chosen, becomes)
carried asked found before after chosen (Err run_fault.Memory) becomes = inr (chosen, becomes)
carried asked found before after chosen (Err run_fault.Read) becomes = absurd becomes

-- a paper was not read
pub unread : (T : Type 0) (asked : Asked) (before : World) (shelf : ShelfState) (fault : RunFault)
    → ReadsPapers {T = T} (Err fault) before.shelf shelf → Attempts asked None (Err fault) before (record before { shelf = shelf })
unread T asked before shelf run_fault.Memory reads = inl (λ i. record before { shelf = reads i })
unread T asked before shelf run_fault.Read reads = record { shelf = reads; sink = refl; keeper = refl }
unread T asked before shelf run_fault.Write reads = absurd reads
unread T asked before shelf run_fault.Keeper reads = absurd reads

-- all papers were read, and the journal was not loaded
pub unloaded : (T : Type 0) (asked : Asked) (before : World) (shelf : ShelfState) (keeper : KeeperState) (keeps : Bool) (fault : RunFault)
    → shelf ≡ before.shelf → keeps ≡ asked.keeps → LoadsJournal {T = T} keeps (Err fault) before.keeper keeper
    → Attempts asked None (Err fault) before (record before { shelf = shelf; keeper = keeper })
unloaded T asked before shelf keeper keeps run_fault.Memory same keeps_are loads =
    inl (λ i. record before { shelf = same i; keeper = loads i })
unloaded T asked before shelf keeper keeps run_fault.Keeper same keeps_are loads =
    inl (record { asked = sym keeps_are ∙ loads.0; shelf = same; sink = refl; keeper = loads.1 })
unloaded T asked before shelf keeper keeps run_fault.Read same keeps_are loads = absurd loads
unloaded T asked before shelf keeper keeps run_fault.Write same keeps_are loads = absurd loads

-- a write was refused as an outcome was carried out
pub cut_at_file : (outcome : OutcomeView) (fault : RunFault) (before : World) (shelf : ShelfState)
    → WritesAll {T = Unit {0}} outcome.writes (Err fault) before.shelf shelf → Becomes outcome (Err fault) before (record before { shelf = shelf })
cut_at_file outcome run_fault.Write before shelf writes = inl (record { shelf = writes; sink = refl; keeper = refl })
cut_at_file outcome run_fault.Memory before shelf writes =
    record { shelf = writes.so; keeper = refl; sink = refl; more = inl writes.more }
cut_at_file outcome run_fault.Read before shelf writes = absurd writes
cut_at_file outcome run_fault.Keeper before shelf writes = absurd writes
