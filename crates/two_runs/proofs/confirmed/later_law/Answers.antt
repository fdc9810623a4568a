use Rattle.std.proofs.Common.{arith}
use Rattle.two_runs.proofs.ConfirmedLemmas.{confirms}
use Rattle.two_runs.proofs.confirmed.later_law.Goals as goal

pub returns : goal.returns
returns c = λ before left later after first second n m k l one two all low.
    confirms one.found two.found before.world left.world later.world after.world first second (one.run.ended (omega (arith, all)))
    (two.run.ended low) all
