-- All that is promised of the run of a command.
use Rattle.std.specs.Prelude.{◌≡◌, ℕ, IfSome, Option}
use Rattle.desk_run.specs.Answers.{found_by}
use Rattle.desk_run.specs.Causes.{HasCause, IsComplete}
use Rattle.desk_run.specs.Commands.{Asked, IsCounted, IsReadIn}
use Rattle.desk_run.specs.Order.{IsInOrder}
use Rattle.desk_run.specs.Outside.{Outside}
use Rattle.desk_run.specs.Reading.{ReadView}
use Rattle.desk_run.specs.Runs.{RunsAs}

-- What was read, where all reads succeeded, which is what the calls answered. By that and the status: what was written, appended and
-- put; its cause; whether it is one that comes where no fault was counted; in which order the calls were made. And how many steps were
-- counted at the most.
pub record Performs (asked : Asked) (before after : Outside) (status old new : ℕ) : Type 0 where
  pub found : Option ReadView
  pub answered : found ≡ found_by asked before.calls after.calls
  pub told : IfSome found (IsReadIn asked before.world)
  pub run : RunsAs asked found before.world after.world status
  pub cause : HasCause asked found before.world after.world status
  pub complete : IsComplete asked found before.world after.world status
  pub order : IsInOrder asked found before after status
  pub counted : IsCounted asked found old new
