-- What a keeper over a database is seen as, and what it answers to an error of the database.
use Rattle.std.specs.Prelude.{ℕ, Bool, true, false, List, None, is_some, Result, Ok, Err}
use Rattle.desk_io.specs.History.{Call}
use Rattle.desk_keeper.specs.Keeper.{KeeperState}
use Rattle.desk_keeper.specs.declared.keeper.KeeperFault.{KeeperFault}
use Rattle.desk_keeper.specs.declared.keeper.KeeperFault.TheVariants as fault
use Rattle.sqlite.specs.declared.error.Error.{Error}
use Rattle.sqlite.specs.declared.error.Error.TheVariants.{SqliteFailure, SqlInputError}
use Rattle.sqlite.specs.declared.error.ErrorCode.TheVariants as code
use Rattle.sqlite_resolve.specs.declared.error.CompileError.TheVariants as compile
use Rattle.sqlite_keeper.specs.declared.sqlite_keeper.SqliteKeeper.{SqliteKeeper}

-- it tells nothing of its journal, counts its faults, and tells which calls came
abbrev pub keeper_state_of : SqliteKeeper → KeeperState
keeper_state_of keeper = record { journal = None; faults = keeper.faults }

abbrev pub keeper_history_of : SqliteKeeper → List Call
keeper_history_of keeper = keeper.history.calls

-- the folder in which the journal is
abbrev pub journal_folder_of : SqliteKeeper → List ℕ
journal_folder_of keeper = keeper.folder

-- the database is open, which the last call of it left so
abbrev pub is_open : SqliteKeeper → Bool
is_open keeper = is_some keeper.database

-- a call answers what says of no error of the database
abbrev pub has_succeeded : {T : Type 0} → Result T KeeperFault → Bool
has_succeeded (Ok x) = true
has_succeeded (Err fault.TooLong) = true
has_succeeded (Err fault.Failed) = false
has_succeeded (Err fault.Memory) = false

-- why a call does nothing at an error of the database: a statement, or what it did, found no memory; or the call failed
abbrev pub refusal_of : Error → KeeperFault
refusal_of (SqliteFailure code.OutOfMemory) = fault.Memory
refusal_of (SqlInputError compile.OutOfMemory) = fault.Memory
refusal_of _ = fault.Failed
