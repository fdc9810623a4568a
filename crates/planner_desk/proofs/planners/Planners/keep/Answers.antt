use Rattle.std.proofs.Common.{refl, sym, ap, subst, ◌∙◌}
use Rattle.std.specs.Prelude.{IsOk}
use Rattle.edit_script.specs.Machine.{or_same}
use Rattle.edit_script.specs.Made.{IsDue}
use Rattle.planner_desk.specs.Planners.{PlannersView}
use Rattle.planner_desk.specs.Standing.{timetable_of}
use Rattle.planner_desk.proofs.Under.{IsUnder-push}
use Rattle.planner_desk.proofs.planners.Planners.keep.Goals as goal

pub do_judged-requires : goal.do_judged-requires
do_judged-requires c =
    let here = c.self.invariant.timetable_is ∙ ap (λ (p : PlannersView). timetable_of p.base p.standing) c.self.view_is in
    (subst (λ t. IsDue t c.args.asked.now.edit c.args.judged) (sym here) c.requires.due).can

pub invariant_of-self-in-Ok : goal.invariant_of-self-in-Ok
invariant_of-self-in-Ok c =
    let t = c.self.inside.script.timetable in
    let here = c.self.invariant.timetable_is ∙ ap (λ (p : PlannersView). timetable_of p.base p.standing) c.self.view_is in
    let does = (subst (λ t. IsDue t c.args.asked.now.edit c.args.judged) (sym here) c.requires.due).does in
    IsUnder-push c.self.inside.base t _ c.self.inside.numbers.items _ c.self.inside.standing.items _ c.args.number c.args.asked.now
    c.in_ok-last.last
    c.self.invariant c.requires.form c.requires.trip (subst IsOk (sym does) refl)
    c.in_ok-last.ensures (c.in-Ok.ensures.done ∙ sym (ap (or_same t) does)) c.in_ok-push.ensures.numbers c.in_ok-push.ensures.standing
