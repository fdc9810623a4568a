use Rattle.std.proofs.Common.{◌≡◌, sym, subst, ◌∙◌}
use Rattle.std.specs.Prelude.{All}
use Rattle.trip_model.specs.Timetable.{TimetableView}
use Rattle.block_build.specs.Names.{IsName}
use Rattle.desk_run.specs.Reading.{found_of}
use Rattle.desk_feed.specs.Commands.{said_to}
use Rattle.sample_command.specs.Sample.{numbered_by}
use Rattle.sample_command.proofs.Given.{summary-given}
use Rattle.sample_command.proofs.summary.SummarizeFeedCommand.outcome.Goals as goal

pub summed-requires-clause-names : goal.summed-requires-clause-names
summed-requires-clause-names g c =
    let said = said_to c.args.said in
    subst (λ (t : TimetableView). All (λ slot. IsName slot.name) t.slots) (sym c.in_ok-edited.ensures.edited.timetable)
    (c.names_law.ensures (found_of c.args.said.read.now.pages) said c.requires.says)

pub returns-clause-given : goal.returns-clause-given
returns-clause-given g c =
    let prefix = c.of-naming.ensures.prefix ∙ c.in_ok-prefix.ensures ∙ c.prefix.ensures in
    let stated = c.of-naming.ensures.stated ∙ c.new.ensures.items in
    let named : c.of-naming.result ≡ numbered_by c.args.said.settings.now = λ i. record { prefix = prefix i; stated = stated i } in
    summary-given c.args.self.now.trips c.args.said.read.now (said_to c.args.said) c.in_ok-edited.edited c.in_ok-matrix.matrix
    c.in_ok-edited.ensures.edited c.in_ok-matrix.ensures c.summed.result c.of-naming.result named
    c.summed.ensures.summed
