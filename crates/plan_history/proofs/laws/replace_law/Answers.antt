use Rattle.std.proofs.Common.{sym, subst}
use Rattle.assignment_model.specs.Prices.{IsCertified}
use Rattle.pair_graph.specs.Pairs.{PairsView, pairs_network}
use Rattle.pair_graph.proofs.PairsLemmas.{pairs-with_trip}
use Rattle.price_repair.specs.Without.{IsCertifiedWith}
use Rattle.plan_history.proofs.laws.replace_law.Goals as goal

pub returns-clause-taken : goal.returns-clause-taken
returns-clause-taken c = λ timetable matrix plan s trip valid places certified.
    let P : PairsView → Type 0 = λ pairs. IsCertifiedWith pairs s plan in
    subst P (sym (pairs-with_trip timetable matrix s trip)) (c.edit_law.ensures.left_out timetable matrix plan s valid places certified)

pub returns-clause-added : goal.returns-clause-added
returns-clause-added c = λ timetable matrix s trip within live plan certified.
    let P : PairsView → Type 0 = λ pairs. IsCertified (pairs_network pairs) plan in
    c.edit_law.ensures.replaced timetable matrix plan s trip within live (subst P (pairs-with_trip timetable matrix s trip) certified)
