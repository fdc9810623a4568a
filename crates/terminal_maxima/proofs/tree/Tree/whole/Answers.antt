use Rattle.std.proofs.Common.{length, fold, All, subst, sym, ◌∙◌, ap, refl, arith}
use Rattle.std.proofs.lemmas.List.{get_or_read}
use Rattle.terminal_maxima.specs.declared.summary.TheConstants.{LEAVES}
use Rattle.terminal_maxima.proofs.Folds.{leaves_count, leaves_sum, node_sums, root_folds}
use Rattle.terminal_maxima.proofs.Spans.{root_span}
use Rattle.terminal_maxima.proofs.tree.Tree.whole.Goals as goal

pub returns-clause-folded : goal.returns-clause-folded
returns-clause-folded g c =
    let tree = c.self.invariant in
    let nodes = c.self.inside.nodes.items in
    get_or_read nodes 1 c.index.result.now (omega (arith, tree.count)) c.index.ensures g.S.Summary.empty
    ∙ root_folds g.met.S.Summary.laws nodes LEAVES 13 tree refl (omega arith)
    ∙ ap (fold g.S.Summary.joined g.S.Summary.empty) c.self.view_is

pub returns-clause-count : goal.returns-clause-count
returns-clause-count g c =
    ap length (sym c.self.view_is)
    ∙ leaves_count g.met.S.Summary.laws c.self.inside.nodes.items LEAVES 13 c.self.invariant refl (omega arith)

pub returns-clause-leaves : goal.returns-clause-leaves
returns-clause-leaves g c =
    subst (All (λ leaf. g.S.Summary.sums leaf 1)) c.self.view_is
    (leaves_sum g.met.S.Summary.laws c.self.inside.nodes.items LEAVES 13 c.self.invariant refl (omega arith))

pub returns-clause-lawful : goal.returns-clause-lawful
returns-clause-lawful g c =
    let tree = c.self.invariant in
    let nodes = c.self.inside.nodes.items in
    let read = get_or_read nodes 1 c.index.result.now (omega (arith, tree.count)) c.index.ensures g.S.Summary.empty in
    subst (λ (x : _). g.S.Summary.sums x LEAVES) (sym read)
    (node_sums g.met.S.Summary.laws nodes LEAVES 13 tree refl (omega arith) 13 1 0 LEAVES (root_span 13))
