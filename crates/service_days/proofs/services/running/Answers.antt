use Rattle.std.proofs.Common.{subst, sym}
use Rattle.service_days.specs.Services.{AreRunning}
use Rattle.service_days.proofs.RunningLemmas.{are-running}
use Rattle.service_days.proofs.services.running.Goals as goal

pub returns-clause-exact : goal.returns-clause-exact
returns-clause-exact c = record {
  services = c.in_ok-services.services;
  said = c.in_ok-services.ensures;
  running = subst (AreRunning c.in_ok-services.services c.args.date) (sym c.in_ok-running.ensures)
      (are-running c.in_ok-services.services c.args.date);
}
