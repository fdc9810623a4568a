use Rattle.std.proofs.Common.{◌∙◌, ◌++◌, ◌∷◌, [], sym, ap, subst}
use Rattle.assignment_model.specs.Prices.{Plan}
use Rattle.undo_log.specs.Log.{LogView}
use Rattle.plan_history.specs.History.{HistoryView}
use Rattle.plan_history.specs.Items.{undone_by, redone_by, plans_along, AreItemsOf}
use Rattle.plan_history.specs.declared.item.Item.{Item}
use Rattle.plan_history.proofs.HistoryLemmas.{leads-back, AreItems-undone, earlier-undone, later-undone}
use Rattle.plan_history.proofs.history.PlanHistory.undo.Goals as goal

pub lead_back-requires : goal.lead_back-requires
lead_back-requires c = leads-back c.self.inside.solver c.self.inside.log c.take_back.new.self c.in-Some.item c.self.invariant.0
    c.in-Some.ensures.last

pub invariant_of-self : goal.invariant_of-self
invariant_of-self c =
    let P : Plan → Type 0 = λ plan. AreItemsOf plan c.put_undone.new.self in
    let Q : LogView Item → Type 0 = λ log. AreItemsOf (undone_by c.self.inside.solver c.in-Some.item) log in (
      subst P (sym c.lead_back.ensures)
          (subst Q (sym c.put_undone.ensures)
          (AreItems-undone c.self.inside.solver c.self.inside.log c.take_back.new.self c.in-Some.item c.self.invariant.0
          c.in-Some.ensures.last)),
      c.self.invariant.1,
      c.self.invariant.2,
    )

pub returns-in-Some-clause-earlier : goal.returns-in-Some-clause-earlier
returns-in-Some-clause-earlier c =
    ap (λ (h : HistoryView). h.earlier) (sym c.self.view_is)
    ∙ (earlier-undone c.self.inside.solver c.self.inside.log c.take_back.new.self c.in-Some.item c.in-Some.ensures.last
    ∙ (ap (λ (p : Plan). plans_along undone_by p c.take_back.new.self.kept ++ p ∷ []) (sym c.lead_back.ensures)
    ∙ ap (λ (log : LogView Item). plans_along undone_by c.lead_back.new.solver log.kept ++ c.lead_back.new.solver ∷ [])
    (sym c.put_undone.ensures)))

pub returns-in-Some-clause-later : goal.returns-in-Some-clause-later
returns-in-Some-clause-later c =
    ap (λ (log : LogView Item). plans_along redone_by c.lead_back.new.solver log.undone) c.put_undone.ensures
    ∙ (ap (λ (p : Plan). plans_along redone_by p (c.take_back.new.self.undone ++ c.in-Some.item ∷ [])) c.lead_back.ensures
    ∙ (later-undone c.self.inside.solver c.self.inside.log c.take_back.new.self c.in-Some.item c.self.invariant.0 c.in-Some.ensures.last
    ∙ ap (λ (h : HistoryView). h.later ++ h.plan ∷ []) c.self.view_is))
