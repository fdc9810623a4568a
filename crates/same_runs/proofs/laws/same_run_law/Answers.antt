use Rattle.desk_program.specs.Commands.{asked_by}
use Rattle.same_runs.proofs.CommandLemmas.{determined}
use Rattle.same_runs.proofs.RunLemmas.{alike}
use Rattle.same_runs.proofs.laws.same_run_law.Goals as goal

pub returns : goal.returns
returns c = λ command before after later last status second n m k l one other same few few'.
    alike (asked_by command) before after later last status second n m k l (determined command) one other same few few'
