use Rattle.std.proofs.Common.{◌+◌, ℕ, get_or, drop, slice_get, Some, subst, sym, ◌∙◌, ap, refl, arith}
use Rattle.std.proofs.lemmas.List.{get_or_read, get_or-drop}
use Rattle.std.proofs.lemmas.Option.{slice_get-get_or}
use Rattle.terminal_maxima.specs.declared.summary.TheConstants.{LEAVES}
use Rattle.terminal_maxima.proofs.Folds.{leaves_count}
use Rattle.terminal_maxima.proofs.tree.Tree.leaf.Goals as goal

pub returns-clause-found : goal.returns-clause-found
returns-clause-found g c =
    let tree = c.self.invariant in
    let nodes = c.self.inside.nodes.items in
    let leaf = c.index.result.now in
    let count = leaves_count g.met.S.Summary.laws nodes LEAVES 13 tree refl (omega arith) in
    let place : ℕ = c.args.place in
    let read = get_or_read nodes (LEAVES + place) leaf (omega (arith, tree.count, c.requires))
    (c.index.ensures ∙ ap (λ (k : ℕ). get_or nodes (LEAVES + k) leaf) c.from.ensures) leaf in
    ap (λ xs. slice_get xs place) (sym c.self.view_is) ∙ slice_get-get_or (drop LEAVES nodes) place leaf (omega (arith, count, c.requires))
    ∙ ap Some (get_or-drop LEAVES nodes place leaf ∙ sym read)

pub returns-clause-lawful : goal.returns-clause-lawful
returns-clause-lawful g c =
    let tree = c.self.invariant in
    let nodes = c.self.inside.nodes.items in
    let place : ℕ = c.args.place in
    let here = c.index.ensures ∙ ap (λ (k : ℕ). get_or nodes (LEAVES + k) c.index.result.now) c.from.ensures in
    let read = get_or_read nodes (LEAVES + place) c.index.result.now (omega (arith, tree.count, c.requires)) here g.S.Summary.empty in
    subst (λ (x : _). g.S.Summary.sums x 1) (sym read) (tree.leaf place c.requires)
