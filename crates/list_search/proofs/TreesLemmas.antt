-- What is said of a tree is said of one whose lists are the same.
use Rattle.std.proofs.Common.{◌≡◌, ℕ, Bool, List, length, Option, sym, ap, subst, ◌∙◌}
use Rattle.assignment_model.specs.Prices.{Plan}
use Rattle.pair_search.specs.Determined.{Front, first_nearest}
use Rattle.pair_search.specs.Fronts.{IsOnWay}
use Rattle.pair_search.specs.Search.{TreeView, IsNearest}
use Rattle.pair_search.specs.declared.grow.End.{End}
use Rattle.pair_search.proofs.TreeLemmas.{tree_with}
use Rattle.list_search.specs.Trees.{tree_of}
use Rattle.list_search.specs.declared.tree.Tree.{Tree}

pub tree-same : (s t : Tree) (size reach : ℕ) → t.dist ≡ s.dist → t.parent ≡ s.parent → t.done ≡ s.done
    → (t.rows ≡ s.rows) × (t.far ≡ s.far) → tree_of s size reach ≡ tree_of t size reach
tree-same s t size reach dist parent done rows =
    ap (λ d. tree_with d s.parent.items s.done.items s.rows.items s.far.items size reach) (sym (ap (λ v. v.items) dist))
    ∙ ap (λ d. tree_with t.dist.items d s.done.items s.rows.items s.far.items size reach) (sym (ap (λ v. v.items) parent))
    ∙ ap (λ d. tree_with t.dist.items t.parent.items d s.rows.items s.far.items size reach) (sym (ap (λ v. v.items) done))
    ∙ ap (λ d. tree_with t.dist.items t.parent.items t.done.items d s.far.items size reach) (sym (ap (λ v. v.items) rows.0))
    ∙ ap (λ d. tree_with t.dist.items t.parent.items t.done.items t.rows.items d size reach) (sym (ap (λ v. v.items) rows.1))

pub nearest-same : (s t : Tree) (bound j : ℕ) → t.dist ≡ s.dist → t.done ≡ s.done → IsNearest s.done.items s.dist.items bound j
    → IsNearest t.done.items t.dist.items bound j
nearest-same s t bound j dist done nearest =
    subst (λ (d : List Bool). IsNearest d t.dist.items bound j) (sym (ap (λ v. v.items) done))
    (subst (λ (d : List ℕ). IsNearest s.done.items d bound j) (sym (ap (λ v. v.items) dist)) nearest)

pub picked-same : (s t : Tree) (bound : ℕ) → t.dist ≡ s.dist → t.done ≡ s.done
    → first_nearest (length t.dist.items) t.done.items t.dist.items bound ≡ first_nearest (length s.dist.items) s.done.items s.dist.items bound
picked-same s t bound dist done =
    ap (λ (d : List ℕ). first_nearest (length d) t.done.items d bound) (ap (λ v. v.items) dist)
    ∙ ap (λ (d : List Bool). first_nearest (length s.dist.items) d s.dist.items bound) (ap (λ v. v.items) done)

pub way-same : (w : ℕ → ℕ → Option ℕ) (plan : Plan) (whole : Front) (s t : Tree) (size reach : ℕ) (best : End)
    → tree_of s size reach ≡ tree_of t size reach
    → IsOnWay w plan whole size s.dist.items s.parent.items s.done.items s.rows.items best.from best.to best.fall
    → IsOnWay w plan whole size t.dist.items t.parent.items t.done.items t.rows.items best.from best.to best.fall
way-same w plan whole s t size reach best same way =
    subst (λ (v : TreeView). IsOnWay w plan whole v.size v.dist v.parent v.done v.rows best.from best.to best.fall) same way
