use Rattle.std.proofs.Common.{subst, sym}
use Rattle.desk_run.specs.Commands.{IsGiven}
use Rattle.desk_feed.specs.Judging.{of_feed}
use Rattle.sample_command.specs.declared.summary.Summarize.{Summarize}
use Rattle.sample_command.specs.Sample.{sample_asked, summary_does}
use Rattle.sample_command.proofs.Given.{sample-given, sample-unwritten}
use Rattle.sample_command.proofs.sample.SampleCommand.outcome.Goals as goal

pub lending_nothing-requires : goal.lending_nothing-requires
lending_nothing-requires g c =
    sample-unwritten c.args.self.now.trips c.in_ok-read.read c.in_ok-outcome.outcome
    (subst (λ (command : Summarize). IsGiven (of_feed (summary_does command.trips)) c.in_ok-read.read c.in_ok-outcome.outcome)
    c.of-command.ensures c.in_ok-outcome.ensures.given)

pub returns-clause-given : goal.returns-clause-given
returns-clause-given g c =
    subst (IsGiven (sample_asked c.args.self.now.trips) c.args._read.now) (sym c.lending_nothing.ensures)
    (sample-given c.args.self.now.trips c.args._read.now c.in_ok-read.read c.in_ok-read.ensures c.in_ok-outcome.outcome
    (subst (λ (command : Summarize). IsGiven (of_feed (summary_does command.trips)) c.in_ok-read.read c.in_ok-outcome.outcome)
    c.of-command.ensures c.in_ok-outcome.ensures.given))
