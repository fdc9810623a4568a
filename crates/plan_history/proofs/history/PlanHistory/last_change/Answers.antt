use Rattle.std.proofs.Common.{◌∙◌, sym, ap}
use Rattle.undo_log.specs.Log.{last_item}
use Rattle.plan_history.specs.History.{HistoryView}
use Rattle.plan_history.specs.Items.{undone_by}
use Rattle.plan_history.specs.Stands.{differences}
use Rattle.plan_history.proofs.HistoryLemmas.{last-differences}
use Rattle.plan_history.proofs.LedLemmas.{plans-none}
use Rattle.plan_history.proofs.history.PlanHistory.last_change.Goals as goal

pub returns-in-Some-clause-none : goal.returns-in-Some-clause-none
returns-in-Some-clause-none c = (
  (λ e. cc e),
  λ empty. c.in-Some.ensures.none.1
      (plans-none undone_by c.self.inside.solver c.self.inside.log.kept (ap (λ (h : HistoryView). h.earlier) c.self.view_is ∙ empty)),
)

pub returns-in-Some-clause-changes : goal.returns-in-Some-clause-changes
returns-in-Some-clause-changes c = λ plan last.
    c.as_slice.ensures.value
    ∙ (last-differences c.self.inside.solver c.self.inside.log c.in-Some.item.now (c.self.invariant.0) (sym c.in-Some.ensures.last) plan
    (ap (λ (h : HistoryView). last_item h.earlier) c.self.view_is ∙ last)
    ∙ ap (λ (h : HistoryView). differences plan h.plan) c.self.view_is)
