use Rattle.desk_feed.specs.Commands.{said_to}
use Rattle.joined_command.proofs.Given.{drawn-blocking, joined-given}
use Rattle.joined_command.proofs.joined.WriteBoardsNamingCommand.outcome.Goals as goal

pub boarded-requires-clause-blocking : goal.boarded-requires-clause-blocking
boarded-requires-clause-blocking g c =
    drawn-blocking c.args.said.timetable c.args.said.lines.now c.in_ok-matrix.matrix c.in_ok-likings.likings
    c.in_ok-drawn.drawn c.in_ok-drawn.ensures.drawn

pub returns-clause-given : goal.returns-clause-given
returns-clause-given g c =
    joined-given c.args.said.read.now c.args.naming.now (said_to c.args.said) c.in_ok-matrix.matrix c.in_ok-likings.likings
    c.in_ok-drawn.drawn
    c.joined_law.ensures.most c.joined_law.ensures.least c.entries_law.ensures c.requires.says c.in_ok-matrix.ensures
    c.in_ok-drawn.ensures.drawn
    c.in_ok-likings.ensures c.boarded.result c.boarded.ensures.boarded
