use Rattle.std.proofs.Common.{◌≡◌, ◌∙◌, ◌<◌, ℕ, Option, Some, List, length, sym, ap, subst}
use Rattle.assignment_model.specs.Prices.{Plan}
use Rattle.pair_graph.specs.Pairs.{pairs_network}
use Rattle.plan_history.specs.Items.{undone_by, redone_by, IsWhole}
use Rattle.plan_history.specs.History.{HistoryView}
use Rattle.plan_history.proofs.HistoryLemmas.{AreItems-none, plans-other, IsWhole-certified}
use Rattle.plan_choice.proofs.ChosenLemmas.{with_next}
use Rattle.plan_history.proofs.history.PlanHistory.choose.Goals as goal
use Rattle.trip_model.specs.Links.{next_of}

pub set_links-requires-clause-within : goal.set_links-requires-clause-within
set_links-requires-clause-within g c =
    subst (λ (links : List (Option ℕ)). (s j : ℕ) → next_of links s ≡ Some j → j < length links) (sym c.deref.ensures.value)
    (IsWhole-certified (pairs_network c.args.pairs.now) c.slots-slots.result _ (with_next c.plan.result.now c.in_ok-next.next.items)
    c.slots-slots.ensures.day c.slots-slots.ensures.departures
    (c.in_ok-next.ensures.slots ∙ sym c.slots-slots.ensures.count) c.in_ok-next.ensures.certified).within

pub invariant_of-self : goal.invariant_of-self
invariant_of-self g c =
    let same : c.set_links.new.solver ≡ with_next c.plan.result.now c.in_ok-next.next.items =
    c.set_links.ensures ∙ ap (with_next c.self.inside.solver) c.deref.ensures.value
    ∙ ap (λ (p : Plan). with_next p c.in_ok-next.next.items) (sym c.plan.ensures) in (
      AreItems-none c.self.inside.solver c.set_links.new.solver c.self.inside.log
          (ap (λ (h : HistoryView). h.earlier) c.self.view_is ∙ c.requires.earlier)
          (ap (λ (h : HistoryView). h.later) c.self.view_is ∙ c.requires.later)
          (subst IsWhole (sym same)
          (IsWhole-certified (pairs_network c.args.pairs.now) c.slots-slots.result _
          (with_next c.plan.result.now c.in_ok-next.next.items)
          c.slots-slots.ensures.day c.slots-slots.ensures.departures
          (c.in_ok-next.ensures.slots ∙ sym c.slots-slots.ensures.count) c.in_ok-next.ensures.certified)),
      c.self.invariant.1,
      c.self.invariant.2,
    )

pub returns-clause-earlier : goal.returns-clause-earlier
returns-clause-earlier g c = plans-other undone_by c.self.inside.solver c.set_links.new.solver c.self.inside.log.kept
    (ap (λ (h : HistoryView). h.earlier) c.self.view_is ∙ c.requires.earlier)

pub returns-clause-later : goal.returns-clause-later
returns-clause-later g c = plans-other redone_by c.self.inside.solver c.set_links.new.solver c.self.inside.log.undone
    (ap (λ (h : HistoryView). h.later) c.self.view_is ∙ c.requires.later)
