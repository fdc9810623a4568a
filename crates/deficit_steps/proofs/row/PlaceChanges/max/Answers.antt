use Rattle.std.proofs.Common.{w32, to_z, of_z, sym, ap, subst, ◌∙◌, pos}
use Rattle.std.specs.Prelude.{IfSome}
use Rattle.std.proofs.lemmas.Int.{to_z-of_z}
use lib.IntN.{nat_abs}
use Rattle.terminal_maxima.specs.Reaching.{IsFirstReaching}
use Rattle.trip_model.specs.Maximum.{first_maximum}
use Rattle.deficit_steps.specs.Changes.{AreChanges, value_in}
use Rattle.deficit_steps.proofs.LeavesLemmas.{first_maximum-reaching}
use Rattle.deficit_steps.proofs.RowLemmas.{pos-nat_abs}
use Rattle.deficit_steps.proofs.row.PlaceChanges.max.Goals as goal

pub returns : goal.returns
returns c =
    let leaves = c.self.inside.tree in
    let high = c.greatest_prefix-high.result in
    let at = c.unwrap-at.result in
    let valid = subst AreChanges (sym c.self.view_is) c.requires in
    let same = to_z-of_z w32 high (record { sfits = c.greatest_prefix-high.type_inv }) in
    let found = subst (λ r. IfSome r (IsFirstReaching leaves 0 (to_z w32 (of_z w32 high)))) c.unwrap-at.ensures
    c.first_reaching.ensures.found in
    ap (λ xs. first_maximum (value_in xs)) (sym c.self.view_is)
    ∙ first_maximum-reaching leaves high at valid c.greatest_prefix-high.ensures (subst (λ v. IsFirstReaching leaves 0 v at) same found)
    ∙ (λ i. ((pos-nat_abs high c.greatest_prefix-high.ensures.from_zero ∙ ap (λ z. pos (nat_abs z)) (sym same)) i, at))
