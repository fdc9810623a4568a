use Rattle.same_runs.proofs.CommandLemmas.{determined}
use Rattle.same_runs.proofs.laws.determined_law.Goals as goal

pub returns : goal.returns
returns c = determined
