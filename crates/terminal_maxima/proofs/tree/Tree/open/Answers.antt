use Rattle.std.proofs.Common.{◌≡◌, refl, arith}
use Rattle.std.proofs.lemmas.List.Elements.{All-drop}
use Rattle.terminal_maxima.specs.declared.summary.TheConstants.{LEAVES}
use Rattle.terminal_maxima.proofs.Folds.{leaves_count}
use Rattle.terminal_maxima.proofs.tree.Tree.open.Goals as goal

pub returns-clause-count : goal.returns-clause-count
returns-clause-count g c =
    leaves_count g.met.S.Summary.laws c.in_ok-nodes.nodes.items LEAVES 13 c.in_ok-nodes.ensures.tree refl (omega arith)

pub returns-clause-units : goal.returns-clause-units
returns-clause-units g c =
    All-drop (λ leaf. leaf ≡ g.S.Summary.empty) LEAVES c.in_ok-nodes.nodes.items c.in_ok-nodes.ensures.units
