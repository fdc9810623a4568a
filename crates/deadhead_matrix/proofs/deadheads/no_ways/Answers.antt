use Rattle.std.proofs.Common.{◌≡◌, List, ℕ, replicate, subst, sym, ap, ◌∙◌, arith}
use Rattle.deadhead_matrix.specs.Rows.{AreRows, way}
use Rattle.deadhead_matrix.proofs.WaysLemmas.{AreRows-zeros, way-zeros}
use Rattle.deadhead_matrix.proofs.deadheads.no_ways.Goals as goal

pub returns-clause-rows : goal.returns-clause-rows
returns-clause-rows c =
    let all : c.loop-place._place ≡ c.args.places = omega arith in
    subst (λ (ways : List (List ℕ)). AreRows c.args.places ways)
    (sym (c.loop-place.invariant ∙ ap (λ n. replicate n (replicate c.args.places 0)) all)) (AreRows-zeros c.args.places)

pub returns-clause-none : goal.returns-clause-none
returns-clause-none c = λ a b. ap (λ ways. way ways a b) c.loop-place.invariant ∙ way-zeros c.loop-place._place c.args.places a b
