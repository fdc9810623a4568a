-- What a keeper in memory holds, and which of its calls fail.
use Rattle.std.specs.Prelude.{List, Some}
use Rattle.desk_io.specs.Calls.{CallCount}
use Rattle.desk_io.specs.History.{Call}
use Rattle.desk_keeper.specs.Keeper.{Journal, KeeperState}
use Rattle.desk_keeper.specs.declared.memory_keeper.MemoryKeeper.{MemoryKeeper}

abbrev pub journal_of : MemoryKeeper → Journal
journal_of keeper = keeper.journal.items

-- which calls are to fail, and how many came, loads and appends together
abbrev pub calls_of : MemoryKeeper → CallCount
calls_of keeper = keeper.calls

abbrev pub keeper_state_of : MemoryKeeper → KeeperState
keeper_state_of keeper = record { journal = Some (journal_of keeper); faults = keeper.calls.faults }

abbrev pub keeper_history_of : MemoryKeeper → List Call
keeper_history_of keeper = keeper.history.calls
