use Rattle.std.proofs.Common.{[]}
use Rattle.desk_feed.specs.Commands.{said_to}
use Rattle.desk_feed.proofs.PapersLemmas.{has-papers}
use Rattle.write_command.proofs.Given.{write-given}
use Rattle.write_command.proofs.write.WriteFeedNamingCommand.outcome.Goals as goal

pub written_of-requires-clause-papers : goal.written_of-requires-clause-papers
written_of-requires-clause-papers g c = has-papers [] c.args.said.read.now.pages c.requires.papers

pub returns-clause-given : goal.returns-clause-given
returns-clause-given g c = write-given c.args.said.read.now c.args.naming.now (said_to c.args.said) c.written_of.result c.written_of.ensures.writes
