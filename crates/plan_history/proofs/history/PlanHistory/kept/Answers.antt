use Rattle.std.proofs.Common.{◌∙◌, sym, ap, length, arith}
use Rattle.plan_history.specs.Items.{undone_by, redone_by}
use Rattle.plan_history.specs.History.{HistoryView}
use Rattle.plan_history.proofs.LedLemmas.{length-plans}
use Rattle.plan_history.proofs.history.PlanHistory.kept.Goals as goal

pub returns-clause-count : goal.returns-clause-count
returns-clause-count c =
    c.kept.ensures.count ∙ (sym (length-plans undone_by c.self.inside.solver c.self.inside.log.kept)
    ∙ ap (λ (h : HistoryView). length h.earlier) c.self.view_is)

pub returns-clause-within : goal.returns-clause-within
returns-clause-within c =
    omega (
      arith,
      c.kept.ensures.within,
      length-plans undone_by c.self.inside.solver c.self.inside.log.kept,
      length-plans redone_by c.self.inside.solver c.self.inside.log.undone,
      ap (λ (h : HistoryView). length h.earlier) c.self.view_is,
      ap (λ (h : HistoryView). length h.later) c.self.view_is,
    )
