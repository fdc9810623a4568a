-- What is outside the program: the files of a folder, what was printed, and the journal.
use Rattle.std.specs.Prelude.{◌≡◌}
use Rattle.desk_io.specs.Faults.{NoneCounted}
use Rattle.desk_io.specs.Shelf.{ShelfState}
use Rattle.desk_io.specs.Sink.{SinkState}
use Rattle.desk_keeper.specs.Keeper.{KeeperState}

-- word: shelf, sink, keeper; world = files, output, journal; the state of all three
pub record World : Type 0 where
  pub shelf : ShelfState
  pub sink : SinkState
  pub keeper : KeeperState

abbrev pub world : {S O K : Type 0} → (S → ShelfState) → (O → SinkState) → (K → KeeperState) → S → O → K → World
world shelf_state sink_state keeper_state shelf out keeper =
    record { shelf = shelf_state shelf; sink = sink_state out; keeper = keeper_state keeper }

-- no count of faults rose: each is as it was before the run
pub record NoCountRose (before after : World) : Type 0 where
  pub read_faults : after.shelf.read_faults ≡ before.shelf.read_faults
  pub write_faults : after.shelf.write_faults ≡ before.shelf.write_faults
  pub sink_faults : after.sink.faults ≡ before.sink.faults
  pub keeper_faults : after.keeper.faults ≡ before.keeper.faults

-- no fault was counted in the run
pub record NoFaultCounted (before after : World) : Type 0 where
  pub read_faults : NoneCounted before.shelf.read_faults after.shelf.read_faults
  pub write_faults : NoneCounted before.shelf.write_faults after.shelf.write_faults
  pub sink_faults : NoneCounted before.sink.faults after.sink.faults
  pub keeper_faults : NoneCounted before.keeper.faults after.keeper.faults
