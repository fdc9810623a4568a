use Rattle.std.proofs.Common.{◌∙◌, sym, ap}
use Rattle.pair_graph.specs.Pairs.{pairs_network}
use Rattle.plan_history.specs.Items.{undone_by, redone_by}
use Rattle.plan_history.specs.History.{HistoryView}
use Rattle.plan_history.proofs.HistoryLemmas.{AreItems-none, plans-other, IsWhole-certified}
use Rattle.plan_history.proofs.history.PlanHistory.solve.Goals as goal

pub invariant_of-self : goal.invariant_of-self
invariant_of-self g c = (
  AreItems-none c.self.inside.solver c.solve.new.self c.self.inside.log
      (ap (λ (h : HistoryView). h.earlier) c.self.view_is ∙ c.requires.earlier)
      (ap (λ (h : HistoryView). h.later) c.self.view_is ∙ c.requires.later)
      (IsWhole-certified (pairs_network c.args.pairs.now) c.slots-slots.result _ c.solve.new.self c.slots-slots.ensures.day
      c.slots-slots.ensures.departures
      (c.solve.ensures.slots ∙ sym c.slots-slots.ensures.count) c.solve.ensures.certified),
  c.self.invariant.1,
  c.self.invariant.2,
)

pub returns-clause-earlier : goal.returns-clause-earlier
returns-clause-earlier g c = plans-other undone_by c.self.inside.solver c.solve.new.self c.self.inside.log.kept
    (ap (λ (h : HistoryView). h.earlier) c.self.view_is ∙ c.requires.earlier)

pub returns-clause-later : goal.returns-clause-later
returns-clause-later g c = plans-other redone_by c.self.inside.solver c.solve.new.self c.self.inside.log.undone
    (ap (λ (h : HistoryView). h.later) c.self.view_is ∙ c.requires.later)
