use Rattle.std.proofs.Common.{subst}
use Rattle.desk_feed.specs.Commands.{said_to}
use Rattle.blocks_command.proofs.Given.{SaysPlans, plan-given}
use Rattle.blocks_command.proofs.blocks.WriteBlocksNamingCommand.outcome.Goals as goal

pub returns-clause-given : goal.returns-clause-given
returns-clause-given g c =
    let said = said_to c.args.said in
    let matrix = c.in_ok-matrix.matrix in
    let says = c.planned.ensures in
    plan-given c.args.said.read.now c.args.naming.now said matrix c.accepted_law.ensures.accepted c.names_law.ensures c.requires.says
    c.in_ok-matrix.ensures c.planned.result says.pulls
    (subst (SaysPlans c.args.naming.now said matrix c.planned.result) c.in_ok-likings.ensures (says.are, says.named, says.done))
