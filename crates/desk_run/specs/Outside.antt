-- What stands outside the program, and which calls came to it.
use Rattle.std.specs.Prelude.{List}
use Rattle.desk_io.specs.History.{Call}
use Rattle.desk_io.specs.Shelf.{ShelfState}
use Rattle.desk_io.specs.Sink.{SinkState}
use Rattle.desk_keeper.specs.Keeper.{KeeperState}
use Rattle.desk_run.specs.World.{World, world}

-- the calls that came to the shelf, to the sink and to the keeper, each in their order
pub record Histories : Type 0 where
  pub shelf : List Call
  pub sink : List Call
  pub keeper : List Call

abbrev pub histories : {S O K : Type 0} → (S → List Call) → (O → List Call) → (K → List Call) → S → O → K → Histories
histories shelf_calls sink_calls keeper_calls shelf out keeper =
    record { shelf = shelf_calls shelf; sink = sink_calls out; keeper = keeper_calls keeper }

pub record Outside : Type 0 where
  pub world : World
  pub calls : Histories

abbrev pub outside : {S O K : Type 0} → (S → ShelfState) → (S → List Call) → (O → SinkState) → (O → List Call) → (K → KeeperState)
    → (K → List Call) → S → O → K → Outside
outside shelf_state shelf_calls sink_state sink_calls keeper_state keeper_calls shelf out keeper = record {
  world = world shelf_state sink_state keeper_state shelf out keeper;
  calls = histories shelf_calls sink_calls keeper_calls shelf out keeper;
}
