-- A run of `blocks` that comes to its end.
use Rattle.std.specs.Prelude.{◌≡◌, ℕ, Some}
use Rattle.blocks_command.specs.Blocks.{blocks_asked}
use Rattle.desk_run.specs.Answers.{found_by}
use Rattle.desk_run.specs.Commands.{IsReadIn}
use Rattle.desk_run.specs.Outcome.{OutcomeView}
use Rattle.desk_run.specs.Outside.{Outside}
use Rattle.desk_run.specs.Reading.{ReadView, found_of}
use Rattle.same_runs.specs.Headline.{Headline}
use Rattle.same_runs.specs.Same.{CarriesOut}

-- rule: what a run of `blocks` promises
-- The calls of the run answered what was read, and the world has that, where it tells what is in it. One outcome was carried out, in
-- calls with their bytes, and in the world where that tells. The headline is of what was read and of this outcome.
pub record IsFulfilled (before after : Outside) (status : ℕ) : Type 0 where
  pub read : ReadView
  pub answered : found_by blocks_asked before.calls after.calls ≡ Some read
  pub told : IsReadIn blocks_asked before.world read
  pub outcome : OutcomeView
  pub carried : CarriesOut read outcome before after status
  pub headline : Headline (found_of read.pages) outcome
