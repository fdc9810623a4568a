-- What becomes of an outcome: it is carried out whole, or a fault or lack of memory ends that.
use Rattle.std.specs.Prelude.{◌≡◌, ◌⊎◌, ℕ, ◌<◌, length, List, fold, take, slice_get, Option, None, Some, IsSome, Result, Ok, Err}
use Rattle.desk_io.specs.Shelf.{ShelfState, with_file, WriteFailed}
use Rattle.desk_io.specs.Sink.{put_bytes, PutsPrefix}
use Rattle.desk_keeper.specs.Keeper.{Journal, KeeperState, CallFailed, with_lines}
use Rattle.desk_run.specs.Outcome.{OutcomeView, status_of}
use Rattle.desk_run.specs.World.{World}
use Rattle.desk_run.specs.declared.outcome.Writing.{Writing}
use Rattle.desk_run.specs.declared.fault.RunFault.{RunFault}
use Rattle.desk_run.specs.declared.fault.RunFault.TheVariants as run_fault

-- the shelf with one more file written
abbrev pub with_writing : ShelfState → Writing → ShelfState
with_writing shelf writing = with_file writing.name writing.bytes shelf

-- the shelf with files written in their order
abbrev pub with_writings : List Writing → ShelfState → ShelfState
with_writings writes shelf = fold with_writing shelf writes

-- the keeper with the lines appended, where there are any to append
abbrev pub with_appended : Option Journal → KeeperState → KeeperState
with_appended None keeper = keeper
with_appended (Some lines) keeper = with_lines lines keeper

-- the world after all of an outcome
abbrev pub done : OutcomeView → World → World
done outcome before = record {
  shelf = with_writings outcome.writes before.shelf;
  sink = put_bytes outcome.text before.sink;
  keeper = with_appended outcome.lines before.keeper;
}

-- the write of one file failed: those before it are whole, it may hold anything, and those after it are as before
pub record IsHalfWritten (writes : List Writing) (before after : ShelfState) : Type 0 where
  pub count : ℕ
  pub failed : Writing
  pub which : slice_get writes count ≡ Some failed
  pub shelf : WriteFailed failed.name (with_writings (take count writes) before) after

-- so many files were written, and no other
pub record IsWrittenSoFar (writes : List Writing) (before after : ShelfState) : Type 0 where
  pub count : ℕ
  pub shelf : after ≡ with_writings (take count writes) before

-- and one more was still to be written
pub record IsWrittenInPart (writes : List Writing) (before after : ShelfState) : Type 0 where
  pub so : IsWrittenSoFar writes before after
  pub more : so.count < length writes

-- what became of the files
abbrev pub WritesAll : {T : Type 0} → List Writing → Result T RunFault → ShelfState → ShelfState → Type 0
WritesAll writes (Ok x) before after = after ≡ with_writings writes before
WritesAll writes (Err run_fault.Write) before after = IsHalfWritten writes before after
WritesAll writes (Err run_fault.Memory) before after = IsWrittenInPart writes before after
WritesAll writes (Err run_fault.Read) before after = ⊥
WritesAll writes (Err run_fault.Keeper) before after = ⊥

-- what became of the lines
abbrev pub AppendsSome : {T : Type 0} → Option Journal → Result T RunFault → KeeperState → KeeperState → Type 0
AppendsSome lines (Ok x) before after = after ≡ with_appended lines before
AppendsSome lines (Err run_fault.Keeper) before after = IsSome lines × CallFailed before after
AppendsSome lines (Err run_fault.Memory) before after = IsSome lines × (after ≡ before)
AppendsSome lines (Err run_fault.Read) before after = ⊥
AppendsSome lines (Err run_fault.Write) before after = ⊥

-- a file's write failed: nothing was appended and nothing put
pub record EndsAtFile (outcome : OutcomeView) (before after : World) : Type 0 where
  pub shelf : IsHalfWritten outcome.writes before.shelf after.shelf
  pub sink : after.sink ≡ before.sink
  pub keeper : after.keeper ≡ before.keeper

-- the sink failed: all files are whole, the lines are appended, and a prefix of the text was put
pub record EndsAtText (outcome : OutcomeView) (before after : World) : Type 0 where
  pub shelf : after.shelf ≡ with_writings outcome.writes before.shelf
  pub keeper : after.keeper ≡ with_appended outcome.lines before.keeper
  pub sink : PutsPrefix outcome.text before.sink after.sink

-- the keeper failed to append: all files are whole, the journal is as it was, and nothing was put
pub record EndsAtLines (outcome : OutcomeView) (before after : World) : Type 0 where
  pub some : IsSome outcome.lines
  pub shelf : after.shelf ≡ with_writings outcome.writes before.shelf
  pub keeper : CallFailed before.keeper after.keeper
  pub sink : after.sink ≡ before.sink

-- memory was wanted: each file is whole or as before, the journal is as it was, and nothing was put
pub record EndsForMemory (outcome : OutcomeView) (before after : World) : Type 0 where
  pub shelf : IsWrittenSoFar outcome.writes before.shelf after.shelf
  pub keeper : after.keeper ≡ before.keeper
  pub sink : after.sink ≡ before.sink
  pub more : (shelf.count < length outcome.writes) ⊎ IsSome outcome.lines

-- what becomes of an outcome
abbrev pub Becomes : OutcomeView → Result ℕ RunFault → World → World → Type 0
Becomes outcome (Ok status) before after = (status ≡ status_of outcome.ending) × (after ≡ done outcome before)
Becomes outcome (Err run_fault.Write) before after = EndsAtFile outcome before after ⊎ EndsAtText outcome before after
Becomes outcome (Err run_fault.Keeper) before after = EndsAtLines outcome before after
Becomes outcome (Err run_fault.Memory) before after = EndsForMemory outcome before after
Becomes outcome (Err run_fault.Read) before after = ⊥
