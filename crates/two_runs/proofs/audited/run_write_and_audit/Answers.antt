use Rattle.std.proofs.Common.{arith}
use Rattle.two_runs.proofs.WrittenAudited.{finds-written-least}
use Rattle.two_runs.proofs.audited.run_write_and_audit.Goals as goal

pub returns : goal.returns
returns g c = record {
  sink = _;
  sink_calls = _;
  keeper = _;
  keeper_calls = _;
  steps = _;
  write = c.run_write-first.ensures;
  audit = c.run_audit-second.ensures;
  least = λ all low.
      finds-written-least c.plan_law.ensures _ _ _ _ _ _ _ _ (c.run_write-first.ensures.run.ended (omega (arith, all)))
      (c.run_audit-second.ensures.run.ended low) all;
}
