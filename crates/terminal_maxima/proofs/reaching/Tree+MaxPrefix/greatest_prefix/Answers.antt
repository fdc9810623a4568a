use Rattle.std.proofs.Common.{ℤ, List, to_z, of_z, w32, subst, sym, ap, ◌∙◌, refl, arith}
use Rattle.std.proofs.lemmas.Int.{to_z-of_z}
use Rattle.std.proofs.lemmas.List.{get_or_read}
use Rattle.terminal_maxima.specs.declared.max_prefix.MaxPrefix.{MaxPrefix}
use Rattle.terminal_maxima.specs.declared.summary.TheConstants.{LEAVES}
use Rattle.terminal_maxima.specs.MaxPrefix.{no_leaf}
use Rattle.terminal_maxima.specs.Nodes.{node_of}
use Rattle.terminal_maxima.specs.Reaching.{IsGreatestPrefix}
use Rattle.terminal_maxima.proofs.Spans.{root_span}
use Rattle.terminal_maxima.proofs.Totals.{root_greatest}
use Rattle.terminal_maxima.proofs.UpAndDown.{node_fits}
use Rattle.terminal_maxima.proofs.reaching.Tree+MaxPrefix.greatest_prefix.Goals as goal

pub returns : goal.returns
returns c =
    let tree = c.self.invariant in
    let nodes = c.self.inside.nodes.items in
    let read = get_or_read nodes 1 c.index.result.now (omega (arith, tree.count)) c.index.ensures no_leaf in
    let fits = node_fits nodes LEAVES 13 tree refl (omega arith) 13 1 0 LEAVES (root_span 13) in
    let value = ap (λ (x : MaxPrefix). to_z w32 (of_z w32 x.high)) read ∙ to_z-of_z w32 _ fits.1 in
    subst (λ (high : ℤ). IsGreatestPrefix c.args.self.now high) (sym value)
    (subst (λ (leaves : List MaxPrefix). IsGreatestPrefix leaves (node_of no_leaf nodes 1).high) c.self.view_is
    (root_greatest nodes LEAVES 13 tree refl (omega arith)))
