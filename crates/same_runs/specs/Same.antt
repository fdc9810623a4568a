-- Two runs of one command whose calls answered the same.
use Rattle.std.specs.Prelude.{◌≡◌, ℕ, List, [], ◌++◌, Some}
use Rattle.desk_io.specs.History.{Call}
use Rattle.desk_io.specs.Sink.{ArePuts}
use Rattle.desk_run.specs.Answers.{found_by}
use Rattle.desk_run.specs.Becomes.{done}
use Rattle.desk_run.specs.Commands.{Asked, IsGiven}
use Rattle.desk_run.specs.Order.{carrying, reading, with_calls}
use Rattle.desk_run.specs.Outcome.{OutcomeView, status_of}
use Rattle.desk_run.specs.Outside.{Histories, Outside}
use Rattle.desk_run.specs.Reading.{ReadView}

-- what was read determines the outcome: there is one at the most that the command may give of it
abbrev pub IsDetermined : Asked → Type 0
IsDetermined asked = (read : ReadView) (one other : OutcomeView) → IsGiven asked read one → IsGiven asked read other → one ≡ other

-- All calls were made that read, with these answers. So were all that carry an outcome out: its writes, its append and its puts, each
-- with its bytes.
pub record MakesAll (read : ReadView) (outcome : OutcomeView) (before after : Histories) : Type 0 where
  pub puts : List Call
  pub are : ArePuts outcome.text [] puts
  pub made : after ≡ with_calls before (reading read ++ carrying outcome puts)

-- a run carried one outcome of what it has read out, whole: in its calls, in the world where that tells what is in it, and in its status
pub record CarriesOut (read : ReadView) (outcome : OutcomeView) (before after : Outside) (status : ℕ) : Type 0 where
  pub calls : MakesAll read outcome before.calls after.calls
  pub world : after.world ≡ done outcome before.world
  pub answered : status ≡ status_of outcome.ending

-- both runs have read the same, and carried out one outcome, which the command gives of that
pub record AreAlike (asked : Asked) (before after later last : Outside) (status second : ℕ) : Type 0 where
  pub read : ReadView
  pub answered : found_by asked before.calls after.calls ≡ Some read
  pub outcome : OutcomeView
  pub given : IsGiven asked read outcome
  pub one : CarriesOut read outcome before after status
  pub other : CarriesOut read outcome later last second
