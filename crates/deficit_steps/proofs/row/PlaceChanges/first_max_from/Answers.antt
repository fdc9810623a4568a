use Rattle.std.proofs.Common.{w32, sym, subst}
use Rattle.std.proofs.lemmas.Int.{to_z-of_z}
use Rattle.std.proofs.lemmas.Option.{IfSome_then}
use Rattle.terminal_maxima.specs.Reaching.{IsFirstReaching, NoneReaches}
use Rattle.deficit_steps.specs.Changes.{AreChanges, value_in}
use Rattle.deficit_steps.specs.NextMaximum.{IsNextMaximum, NoNextMaximum}
use Rattle.deficit_steps.proofs.LeavesLemmas.{IsNextMaximum-reaching, NoNextMaximum-reaching, IfNone_then}
use Rattle.deficit_steps.proofs.row.PlaceChanges.first_max_from.Goals as goal

pub returns-clause-found : goal.returns-clause-found
returns-clause-found c =
    let leaves = c.self.inside.tree in
    let from = c.args.minute in
    let valid = subst AreChanges (sym c.self.view_is) c.requires.valid in
    let same = to_z-of_z w32 c.greatest_prefix-high.result (record { sfits = c.greatest_prefix-high.type_inv }) in
    IfSome_then c.first_from.result c.first_from.ensures.found
    (λ at found. subst (λ xs. IsNextMaximum (value_in xs) from at) c.self.view_is
    (IsNextMaximum-reaching leaves _ from at valid c.greatest_prefix-high.ensures
    (subst (λ v. IsFirstReaching leaves from v at) same found)))

pub returns-clause-none : goal.returns-clause-none
returns-clause-none c =
    let leaves = c.self.inside.tree in
    let from = c.args.minute in
    let valid = subst AreChanges (sym c.self.view_is) c.requires.valid in
    let same = to_z-of_z w32 c.greatest_prefix-high.result (record { sfits = c.greatest_prefix-high.type_inv }) in
    IfNone_then c.first_from.result c.first_from.ensures.none
    (λ none. subst (λ xs. NoNextMaximum (value_in xs) from) c.self.view_is
    (NoNextMaximum-reaching leaves _ from valid c.greatest_prefix-high.ensures (subst (λ v. NoneReaches leaves from v) same none)))
