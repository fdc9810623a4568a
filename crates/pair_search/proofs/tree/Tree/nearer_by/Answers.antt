use Rattle.std.proofs.Common.{◌≡◌, ℕ, ◌+◌, ◌<◌, ◌≤◌, length, false, true, Option, Some, None, sym, ap, subst, ◌∙◌, arith}
use Rattle.std.specs.Prelude.{IfNone}
use Rattle.std.proofs.lemmas.List.{get_or_read}
use Rattle.std.proofs.lemmas.Option.{none-some, same_Some}
use Rattle.pair_search.specs.Groups.{IsNoNearerBy}
use Rattle.pair_search.specs.Search.{at, columns_of}
use Rattle.pair_search.specs.Side.{LineView, line_weight, side_allows, side_slot}
use Rattle.pair_search.proofs.SideLemmas.{allowed-side, fit-side, forbidden-side}
use Rattle.pair_search.proofs.tree.Tree.nearer_by.Goals as goal

pub returns-in_err-weight-clause-none : goal.returns-in_err-weight-clause-none
returns-in_err-weight-clause-none c =
    let line : LineView = c.args.line.now in
    subst (λ (o : Option ℕ). IfNone o (IsNoNearerBy line c.args.column c.args.start c.args.enter.now (columns_of c.args.self.now)))
    (sym c.from_residual.ensures)
    (λ k undone fits. absurd (none-some k (sym c.in_err-weight.was ∙ c.walk_weight.ensures
    ∙ fit-side line.side line.row (side_slot line.side c.args.column) k fits)))

pub returns-then-along-index-clause-none : goal.returns-then-along-index-clause-none
returns-then-along-index-clause-none c = λ k undone fits.
    let line : LineView = c.args.line.now in
    let was = c.args.self.now in
    let same : c.in_ok-weight.weight ≡ k = same_Some c.in_ok-weight.weight k (sym c.in_ok-weight.was ∙ c.walk_weight.ensures
    ∙ fit-side line.side line.row (side_slot line.side c.args.column) k fits) in
    let far : c.index-2.result.now ≡ at was.dist.items c.args.column =
    get_or_read was.dist.items c.args.column c.index-2.result.now (omega (arith, c.requires.within, c.requires.slots, was.dist.len))
    c.index-2.ensures 0 in
    omega (
      arith,
      same,
      far,
      c.requires.low c.args.column k fits,
      c.requires.covers c.args.column k fits,
      c.requires.start,
      c.saturating_add.ensures,
      c.saturating_sub-along.ensures,
      c.if-along-index.true,
    )

pub returns-then-not-allows-clause-none : goal.returns-then-not-allows-clause-none
returns-then-not-allows-clause-none c = λ k undone fits.
    let line : LineView = c.args.line.now in
    absurd (none-some k (sym (forbidden-side line.side line.row (side_slot line.side c.args.column)
    (sym (ap (λ (l : LineView). side_allows l.side l.row (side_slot l.side c.args.column)) c.line.view_is) ∙ sym c.allows.ensures
    ∙ c.if-not-allows.true)) ∙ fits))

pub returns-clause-some : goal.returns-clause-some
returns-clause-some c =
    let line : LineView = c.args.line.now in
    let was = c.args.self.now in
    let allowed = allowed-side line.side line.row (side_slot line.side c.args.column)
    (sym (ap (λ (l : LineView). side_allows l.side l.row (side_slot l.side c.args.column)) c.line.view_is) ∙ sym c.allows.ensures
    ∙ c.if-not-allows.false) in
    let fits : line_weight line c.args.column ≡ Some c.in_ok-weight.weight = allowed ∙ sym c.walk_weight.ensures ∙ c.in_ok-weight.was in
    let far : c.index-2.result.now ≡ at was.dist.items c.args.column =
    get_or_read was.dist.items c.args.column c.index-2.result.now (omega (arith, c.requires.within, c.requires.slots, was.dist.len))
    c.index-2.ensures 0 in
    record {
      undone =
          sym (get_or_read was.done.items c.args.column c.index.result.now
          (omega (arith, c.requires.within, c.requires.slots, was.marks, was.done.len)) c.index.ensures false) ∙ c.if-index.false;
      weight = c.in_ok-weight.weight;
      fits = fits;
      exact = omega (
        arith,
        c.requires.low c.args.column c.in_ok-weight.weight fits,
        c.requires.covers c.args.column c.in_ok-weight.weight fits,
        c.requires.start,
        c.saturating_add.ensures,
        c.saturating_sub-along.ensures,
      );
      nearer = omega (arith, far, c.if-along-index.false);
    }
