use Rattle.std.proofs.Common.{sym, ap, subst, ◌∙◌}
use Rattle.std.specs.Prelude.{All, IfSome}
use Rattle.std.specs.Str.{bytes_eq}
use Rattle.std.proofs.lemmas.Map.Entries.{All-lookup}
use Rattle.gtfs_tables.specs.Entries.{Entries, value_of}
use Rattle.deadhead_matrix.specs.declared.pulls.Pull.{Pull}
use Rattle.deadhead_matrix.specs.Pulls.{IsPull}
use Rattle.deadhead_matrix.proofs.depot.Depot.find.Goals as goal

pub returns-clause-value : goal.returns-clause-value
returns-clause-value c = c.copied.ensures ∙ c.find.ensures ∙ ap (value_of c.args.terminal.now) c.self.view_is

pub returns-clause-valid : goal.returns-clause-valid
returns-clause-valid c =
    let short = subst (λ (rows : Entries Pull). All (λ row. IsPull row.1) rows) c.self.view_is c.self.invariant in
    subst (λ found. IfSome found IsPull) (sym (returns-clause-value c))
    (All-lookup IsPull (bytes_eq c.args.terminal.now) c.args.self.now short)
