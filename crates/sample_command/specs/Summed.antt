-- The summary of a timetable after its script: terms of the functions inside.
use Rattle.std.specs.Prelude.{◌≡◌, ℕ}
use Rattle.deadhead_matrix.specs.Matrix.{MatrixView}
use Rattle.block_names.specs.Names.{NamingView}
use Rattle.desk_run.specs.Outcome.{OutcomeView}
use Rattle.desk_feed.specs.declared.script.Edited.{Edited}
use Rattle.desk_feed.specs.Edited.{refusing_first}
use Rattle.sample_command.specs.Sample.{HasSummary, summary_line}

-- the outcome of a timetable after its script
pub record IsSummedOf (trips : ℕ) (edited : Edited) (matrix : MatrixView) (naming : NamingView) (outcome : OutcomeView) : Type 0 where
  pub fixed : ℕ
  pub vehicles : ℕ
  pub minutes : ℕ
  pub summary : HasSummary edited.script.timetable matrix naming fixed vehicles minutes
  pub done : outcome ≡ refusing_first edited.refused (summary_line trips fixed vehicles minutes) edited.ending
