use Rattle.std.proofs.Common.{◌≡◌, ◌*◌, ℕ, replicate, subst, sym, ◌∙◌, ap, refl, arith}
use Rattle.std.proofs.lemmas.List.Elements.{All-replicate, All-same}
use Rattle.terminal_maxima.specs.Nodes.{IsTree}
use Rattle.terminal_maxima.proofs.UnitNodes.{units_are_tree}
use Rattle.terminal_maxima.proofs.nodes.unit_nodes.Goals as goal
use Rattle.terminal_maxima.proofs.nodes.unit_nodes.Goals.{After-loop-node}
use Rattle.terminal_maxima.proofs.nodes.unit_nodes.Given.{Over}

-- all nodes were written
all_units : (g : Over) (c : After-loop-node g) → c.loop-node.nodes.items ≡ replicate (2 * c.args.leaves) g.S.Summary.empty
all_units g c =
    let end : c.loop-node._node ≡ 2 * c.args.leaves = omega (arith, c.loop-node-test.false, c.loop-node.auto._node-end) in
    c.loop-node.invariant ∙ ap (λ (k : ℕ). replicate k g.S.Summary.empty) end

pub returns-clause-tree : goal.returns-clause-tree
returns-clause-tree g c =
    subst (IsTree g.S.Summary.sums g.S.Summary.empty g.S.Summary.joined c.args.leaves) (sym (all_units g c))
    (units_are_tree g.met.S.Summary.laws c.args.leaves)

pub returns-clause-units : goal.returns-clause-units
returns-clause-units g c =
    All-same (λ node. node ≡ g.S.Summary.empty) _ _ (all_units g c)
    (All-replicate (λ node. node ≡ g.S.Summary.empty) (2 * c.args.leaves) g.S.Summary.empty refl)
