use Rattle.std.proofs.Common.{sym, ap, subst, ◌∙◌}
use Rattle.std.specs.Prelude.{remove}
use Rattle.planner_desk.specs.Planners.{PlannersView}
use Rattle.planner_desk.specs.Standing.{Folds, timetable_of}
use Rattle.planner_desk.proofs.Under.{IsUnder-remove}
use Rattle.planner_desk.proofs.planners.Planners.take_out.Goals as goal

pub invariant_of-self : goal.invariant_of-self
invariant_of-self c =
    IsUnder-remove c.self.inside.base c.self.inside.script.timetable _ c.self.inside.numbers.items _ c.self.inside.standing.items _
    c.args.place c.self.invariant
    (subst (λ (p : PlannersView). Folds p.base (remove p.standing c.args.place)) (sym c.self.view_is) c.requires.folds)
    (c.in_ok-script.ensures ∙ ap (λ standing. timetable_of c.self.inside.base (remove standing c.args.place)) c.deref.ensures.value)
    c.remove.ensures.items c.remove-2.ensures.items
