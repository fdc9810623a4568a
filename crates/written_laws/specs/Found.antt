-- What an audit finds of a feed in which blocks of a plan are written.
use Rattle.std.specs.Prelude.{◌≡◌, ℕ, Bool, List, [], map}
use Rattle.gtfs_tables.specs.Table.{TableView}
use Rattle.trip_model.specs.Blocking.{IsLeast}
use Rattle.trip_model.specs.Timetable.{TimetableView}
use Rattle.deadhead_matrix.specs.Matrix.{MatrixView}
use Rattle.deadhead_matrix.specs.Fitting.{network_of}
use Rattle.block_audit.specs.declared.cost.Above.TheVariants.{Nothing}
use Rattle.block_audit.specs.Laws.{standing}
use Rattle.block_audit.specs.Misfits.{misfits_in}
use Rattle.block_audit.specs.Stated.{NamedBlock, AreNames, slots_by, stated_in}

-- Stated blocks are those of a plan, under their names and in their order. They have no misfit, are least, and are above least
-- ones by nothing.
pub record AreOfPlan (timetable : TimetableView) (matrix : MatrixView) (block_names blocks : List (List ℕ))
    (stated : List NamedBlock) : Type 0 where
  pub names : map (λ block. block.name) stated ≡ block_names
  pub slots : slots_by stated ≡ blocks
  pub fits : misfits_in timetable matrix stated ≡ []
  pub least : IsLeast (network_of timetable matrix) (slots_by stated)
  pub above : (others : List (List ℕ)) → IsLeast (network_of timetable matrix) others
      → standing (network_of timetable matrix) (slots_by stated) others ≡ Nothing

-- a feed states the blocks of a plan, and all that it states is text
pub record StatesPlan (trips : TableView) (timetable : TimetableView) (chosen : List Bool) (matrix : MatrixView)
    (names blocks : List (List ℕ)) : Type 0 where
  pub text : AreNames trips chosen
  pub stated : AreOfPlan timetable matrix names blocks (stated_in trips timetable chosen)
