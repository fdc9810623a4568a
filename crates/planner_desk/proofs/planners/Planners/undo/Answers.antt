use Rattle.std.proofs.Common.{◌≡◌, ◌+◌, drop, ap, subst, ◌∙◌}
use Rattle.planner_desk.specs.Planners.{PlannersView}
use Rattle.planner_desk.specs.Standing.{Folds, holder, last_place, standing_at}
use Rattle.planner_desk.proofs.Folding.{folds-not_held}
use Rattle.planner_desk.proofs.planners.Planners.undo.Goals as goal

pub take_out-requires-clause-folds : goal.take_out-requires-clause-folds
take_out-requires-clause-folds c =
    let stands : c.self.inside.standing.items ≡ c.args.self.now.standing = ap (λ (p : PlannersView). p.standing) c.self.view_is in
    let place = c.in-Some.place in
    folds-not_held c.args.self.now.base c.args.planner.now c.args.self.now.standing place
    (subst (λ (p : PlannersView). Folds p.base p.standing) c.self.view_is c.self.invariant.folds)
    (c.in-Some.ensures.place ∙ ap (last_place c.args.planner.now) (c.deref.ensures.value ∙ stands))
    (c.in-None.ensures ∙ ap (λ standing. holder (standing_at standing place) (drop (place + 1) standing))
    (c.deref-2.ensures.value ∙ stands))
