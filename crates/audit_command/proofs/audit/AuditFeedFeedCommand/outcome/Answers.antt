use Rattle.std.proofs.Common.{[], List, Bool, length, sym, ap, subst, ◌∙◌}
use Rattle.std.specs.Prelude.{IfOk}
use Rattle.desk_feed.specs.Commands.{said_to}
use Rattle.desk_feed.proofs.PapersLemmas.{has-papers}
use Rattle.block_audit.specs.Stated.{AreNames}
use Rattle.audit_command.specs.Audit.{trips_table}
use Rattle.audit_command.specs.Auditable.{IsAuditable, Judges}
use Rattle.audit_command.proofs.Given.{audited-given, names-of, refused-given}
use Rattle.audit_command.proofs.audit.AuditFeedFeedCommand.outcome.Goals as goal

pub read_trips-requires : goal.read_trips-requires
read_trips-requires g c = has-papers [] c.args.said.read.now.pages c.requires.papers

pub returns-in-Refused-clause-given : goal.returns-in-Refused-clause-given
returns-in-Refused-clause-given g c =
    let read = c.args.said.read.now in
    let said = said_to c.args.said in
    refused-given read said c.in-Refused.outcome
    (subst (IsAuditable c.args.said.settings.now (trips_table read)) c.in-Refused.is c.in_ok-outcome.ensures)

pub audited-requires-clause-chosen : goal.audited-requires-clause-chosen
audited-requires-clause-chosen g c =
    let may = subst (IsAuditable c.args.said.settings.now (trips_table c.args.said.read.now)) c.in-Trips.is c.in_ok-outcome.ensures in
    ap (λ (xs : List Bool). length xs) c.deref.ensures.value
    ∙ (names-of c.args.said.settings.now (trips_table c.args.said.read.now) c.in-Trips.trips c.in-Trips.chosen may).0

pub audited-requires-clause-names : goal.audited-requires-clause-names
audited-requires-clause-names g c =
    let may = subst (IsAuditable c.args.said.settings.now (trips_table c.args.said.read.now)) c.in-Trips.is c.in_ok-outcome.ensures in
    subst (AreNames c.in-Trips.trips) (sym c.deref.ensures.value)
    (names-of c.args.said.settings.now (trips_table c.args.said.read.now) c.in-Trips.trips c.in-Trips.chosen may).1

pub returns-clause-given : goal.returns-clause-given
returns-clause-given g c =
    let read = c.args.said.read.now in
    let said = said_to c.args.said in
    let may = subst (IsAuditable c.args.said.settings.now (trips_table read)) c.in-Trips.is c.in_ok-outcome.ensures in
    let edited = c.in_ok-edited.edited in
    let matrix = c.in_ok-matrix.matrix in
    audited-given said matrix edited c.in-Trips.trips c.in-Trips.chosen read c.in_ok-matrix.ensures c.in_ok-edited.ensures.edited may
    c.audited.result (subst (λ chosen. IfOk c.audited.result (Judges edited matrix c.in-Trips.trips chosen)) c.deref.ensures.value
    c.audited.ensures.judged)
