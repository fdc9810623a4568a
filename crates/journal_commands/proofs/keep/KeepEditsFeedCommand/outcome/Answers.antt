use Rattle.std.proofs.Common.{◌≡◌, subst}
use Rattle.std.specs.Prelude.{IfOk}
use Rattle.desk_feed.specs.Commands.{said_to}
use Rattle.journal_commands.specs.Journal.{lines_loaded, script_loaded}
use Rattle.journal_commands.specs.Keep.{keeping_by}
use Rattle.journal_commands.proofs.KeepLemmas.{keep-given}
use Rattle.journal_commands.proofs.keep.KeepEditsFeedCommand.outcome.Goals as goal

pub returns-clause-given : goal.returns-clause-given
returns-clause-given g c =
    keep-given c.read_back_law.ensures c.args.said.read.now (said_to c.args.said) c.kept.result
    (subst (λ loaded. IfOk c.kept.result
    (λ outcome. outcome ≡ keeping_by c.args.said.timetable (lines_loaded loaded) c.args.said.lines.now (script_loaded loaded)))
    c.journal.ensures c.kept.ensures)
