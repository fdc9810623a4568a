use Rattle.edit_script.proofs.MachineLemmas.{IsAt-accepted, IsAt-no_edit, IsAt-refused, IsAt-start}
use Rattle.edit_script.proofs.laws.machine_law.Goals as goal

pub returns : goal.returns
returns c = record { start = IsAt-start; accepted = IsAt-accepted; refused = IsAt-refused; no_edit = IsAt-no_edit }
