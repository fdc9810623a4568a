use Rattle.std.proofs.Common.{◌≡◌, ◌≤◌, ◌∙◌, ◌++◌, ◌∷◌, [], sym, ap, length, arith}
use Rattle.pair_graph.specs.Pairs.{pairs_network}
use Rattle.undo_log.specs.Log.{latest_items}
use Rattle.price_repair.specs.Repaired.{plan_taken}
use Rattle.plan_history.specs.Items.{IsWhole, IsNoted}
use Rattle.plan_history.specs.History.{HistoryView}
use Rattle.plan_history.specs.Stands.{stands}
use Rattle.plan_history.proofs.HistoryLemmas.{AreItems-noted, earlier-noted, noted-of, IsWhole-certified}
use Rattle.plan_history.proofs.WriteLemmas.{length-stands}
use Rattle.plan_history.proofs.history.PlanHistory.take.Given as given
use Rattle.plan_history.proofs.history.PlanHistory.take.Goals as goal

pub keep-requires-clause-few : goal.keep-requires-clause-few
keep-requires-clause-few g c =
    let stood : c.as_slice.result.now ≡ stands c.self.inside.solver = c.as_slice.ensures.value
    ∙ (c.copy_stands.ensures.stands ∙ ap stands c.plan.ensures) in
    omega (arith, ap length stood, length-stands c.self.inside.solver, c.self.invariant.0.whole.few)

noted : (g : given.Over) (c : goal.After-keep g)
    → IsNoted c.self.inside.log c.keep.new.log (stands c.self.inside.solver) c.after_take.new.solver
noted g c =
    noted-of c.self.inside.solver c.after_take.new.solver c.plan-2.result.now c.self.inside.log c.keep.new.log c.as_slice.result.now
    (c.as_slice.ensures.value ∙ (c.copy_stands.ensures.stands ∙ ap stands c.plan.ensures)) c.plan-2.ensures c.keep.ensures.noted

whole : (g : given.Over) (c : goal.After-keep g) → IsWhole c.after_take.new.solver
whole g c =
    IsWhole-certified (pairs_network c.args.pairs.now) c.slots-slots.result _ c.after_take.new.solver c.slots-slots.ensures.day
    c.slots-slots.ensures.departures
    (c.after_take.ensures.slots ∙ sym c.slots-slots.ensures.count) c.after_take.ensures.certified

fewer : (g : given.Over) (c : goal.After-keep g) → length c.self.inside.solver.next ≤ length c.after_take.new.solver.next
fewer g c =
    let seen : length c.self.inside.solver.next ≡ length c.args.self.now.plan.next =
    ap (λ (h : HistoryView). length h.plan.next) c.self.view_is in
    omega (arith, seen, c.requires.slots, c.after_take.ensures.slots)

pub invariant_of-self : goal.invariant_of-self
invariant_of-self g c = (
  AreItems-noted c.self.inside.solver c.after_take.new.solver c.self.inside.log c.keep.new.log c.self.invariant.0 (whole g c) (fewer g c)
      (noted g c),
  c.copy_stands.ensures.capacity,
  c.keep.ensures.spare,
)

pub returns-clause-earlier : goal.returns-clause-earlier
returns-clause-earlier g c =
    earlier-noted c.self.inside.solver c.after_take.new.solver c.self.inside.log c.keep.new.log c.self.invariant.0 (whole g c) (fewer g c)
    (noted g c)
    ∙ ap (λ (h : HistoryView). latest_items (h.earlier ++ h.plan ∷ [])) c.self.view_is

pub returns-clause-plan : goal.returns-clause-plan
returns-clause-plan g c = c.after_take.ensures.plan
    ∙ ap (λ (h : HistoryView). plan_taken c.args.pairs.now c.args.slot h.plan) c.self.view_is
