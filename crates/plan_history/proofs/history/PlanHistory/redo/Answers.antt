use Rattle.std.proofs.Common.{◌∙◌, ◌++◌, ◌∷◌, [], sym, ap, subst}
use Rattle.assignment_model.specs.Prices.{Plan}
use Rattle.undo_log.specs.Log.{LogView}
use Rattle.plan_history.specs.History.{HistoryView}
use Rattle.plan_history.specs.Items.{undone_by, redone_by, plans_along, AreItemsOf}
use Rattle.plan_history.specs.declared.item.Item.{Item}
use Rattle.plan_history.proofs.HistoryLemmas.{leads-forth, AreItems-redone, earlier-redone, later-redone}
use Rattle.plan_history.proofs.history.PlanHistory.redo.Goals as goal

pub lead_forth-requires : goal.lead_forth-requires
lead_forth-requires c = leads-forth c.self.inside.solver c.self.inside.log c.take_forth.new.self c.in-Some.item c.self.invariant.0
    c.in-Some.ensures.last

pub invariant_of-self : goal.invariant_of-self
invariant_of-self c =
    let P : Plan → Type 0 = λ plan. AreItemsOf plan c.put_kept.new.self in
    let Q : LogView Item → Type 0 = λ log. AreItemsOf (redone_by c.self.inside.solver c.in-Some.item) log in (
      subst P (sym c.lead_forth.ensures)
          (subst Q (sym c.put_kept.ensures)
          (AreItems-redone c.self.inside.solver c.self.inside.log c.take_forth.new.self c.in-Some.item c.self.invariant.0
          c.in-Some.ensures.last)),
      c.self.invariant.1,
      c.self.invariant.2,
    )

pub returns-in-Some-clause-later : goal.returns-in-Some-clause-later
returns-in-Some-clause-later c =
    ap (λ (h : HistoryView). h.later) (sym c.self.view_is)
    ∙ (later-redone c.self.inside.solver c.self.inside.log c.take_forth.new.self c.in-Some.item c.in-Some.ensures.last
    ∙ (ap (λ (p : Plan). plans_along redone_by p c.take_forth.new.self.undone ++ p ∷ []) (sym c.lead_forth.ensures)
    ∙ ap (λ (log : LogView Item). plans_along redone_by c.lead_forth.new.solver log.undone ++ c.lead_forth.new.solver ∷ [])
    (sym c.put_kept.ensures)))

pub returns-in-Some-clause-earlier : goal.returns-in-Some-clause-earlier
returns-in-Some-clause-earlier c =
    ap (λ (log : LogView Item). plans_along undone_by c.lead_forth.new.solver log.kept) c.put_kept.ensures
    ∙ (ap (λ (p : Plan). plans_along undone_by p (c.take_forth.new.self.kept ++ c.in-Some.item ∷ [])) c.lead_forth.ensures
    ∙ (earlier-redone c.self.inside.solver c.self.inside.log c.take_forth.new.self c.in-Some.item c.self.invariant.0 c.in-Some.ensures.last
    ∙ ap (λ (h : HistoryView). h.earlier ++ h.plan ∷ []) c.self.view_is))
