use Rattle.desk_feed.specs.Commands.{said_to}
use Rattle.plan_commands.proofs.Charted.{chart-given}
use Rattle.plan_commands.proofs.chart.ShowChartNamingCommand.outcome.Goals as goal

pub returns-clause-given : goal.returns-clause-given
returns-clause-given g c =
    chart-given c.args.said.read.now c.args.naming.now (said_to c.args.said) c.in_ok-matrix.matrix c.in_ok-likings.likings
    c.in_ok-drawn.drawn c.in_ok-text.text
    c.in_ok-matrix.ensures c.in_ok-drawn.ensures.drawn c.in_ok-likings.ensures c.in_ok-text.ensures c.putting_after.result
    c.putting_after.ensures
