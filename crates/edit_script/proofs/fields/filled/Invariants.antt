use Rattle.std.proofs.Common.{◌≡◌, drop}
use Rattle.edit_script.specs.Forms as spec
use Rattle.edit_script.specs.Forms.{filled_from}
use Rattle.edit_script.proofs.fields.filled.Given as goal

abbrev pub invariant-loop-n : goal.invariant-loop-n
invariant-loop-n l = spec.filled l.row ≡ filled_from l.n l.filled (drop l.n l.row)
