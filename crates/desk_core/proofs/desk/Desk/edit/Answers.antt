use Rattle.std.proofs.Common.{ap, length, subst, sym, ◌∙◌}
use Rattle.trip_model.specs.Timetable.{IsTimetable, TimetableView}
use Rattle.plan_history.specs.History.{HistoryView}
use Rattle.edit_script.specs.Changes.{IsSlotOf}
use Rattle.desk_core.specs.Desk.{DeskView, IsDone, desk_seen}
use Rattle.desk_core.specs.Computed.{plan_repaired}
use Rattle.desk_core.specs.Repair.{MayRepair}
use Rattle.deadhead_matrix.specs.Plans.{IsPlanFor}
use Rattle.desk_core.proofs.DeskLemmas.{IsDesk-edited, IsDone-edited, counted-trip, may-repair}
use Rattle.desk_core.proofs.desk.Desk.edit.Goals as goal

pub repair-requires-clause-may : goal.repair-requires-clause-may
repair-requires-clause-may g c =
    let s = c.self.inside.script in
    let m = c.self.inside.matrix in
    let told = subst (IsSlotOf c.args.edit.now s.timetable) c.in-Some.is c.in_ok-touched.ensures.slot in
    subst (λ (t : TimetableView). MayRepair c.args.edit.now c.in-Some.slot t m c.reserve.new.self.plan) (sym c.timetable-timetable.ensures)
    (subst (λ (h : HistoryView). MayRepair c.args.edit.now c.in-Some.slot c.step.new.script.timetable m h.plan)
    (sym c.in_ok-reserve.ensures.seen)
    (may-repair s c.step.new.script m c.self.inside.history.plan c.args.number c.in-Some.slot c.self.invariant.0.plan c.self.invariant.0.places
    (subst IsTimetable c.timetable.ensures c.slots-slots.ensures.valid)
    c.args.edit.now c.requires.trip told c.in_ok-touched.ensures.accepted))

pub invariant_of-self-2 : goal.invariant_of-self-2
invariant_of-self-2 g c = (
  IsDesk-edited c.self.inside.script c.step.new.script c.self.inside.matrix c.self.inside.history c.reserve.new.self c.repair.new.history
      c.args.number c.args.edit.now c.in_ok-reserve.ensures.seen
      c.requires.trip c.in_ok-touched.ensures.accepted c.repair.ensures.earlier c.repair.ensures.later c.self.invariant.0
      (subst (λ (t : TimetableView). IsPlanFor t c.self.inside.matrix c.repair.new.history.plan) c.timetable-timetable.ensures
      c.repair.ensures.plan)
      c.in_ok-touched.ensures.places,
  c.in_ok-touched.ensures.with,
)

pub returns-clause-done : goal.returns-clause-done
returns-clause-done g c =
    subst (λ (old : DeskView). IsDone c.args.number c.args.edit.now old
    (desk_seen c.step.new.script c.self.inside.matrix c.repair.new.history)) c.self.view_is
    (IsDone-edited c.self.inside.script c.step.new.script c.self.inside.matrix c.self.inside.history c.reserve.new.self
    c.repair.new.history c.args.number c.args.edit.now c.in_ok-reserve.ensures.seen
    c.requires.trip c.in_ok-touched.ensures.accepted c.repair.ensures.earlier c.repair.ensures.later c.in-Some.slot
    (subst (IsSlotOf c.args.edit.now c.self.inside.script.timetable) c.in-Some.is c.in_ok-touched.ensures.slot) c.repair.ensures.links
    (c.repair.ensures.found ∙ ap (λ (t : TimetableView). plan_repaired c.args.edit.now c.in-Some.slot t c.self.inside.matrix
    c.reserve.new.self.plan) c.timetable-timetable.ensures))

pub returns-clause-counted : goal.returns-clause-counted
returns-clause-counted g c =
    counted-trip c.args.edit.now (length c.step.new.script.timetable.slots) _ _ _ _ c.requires.trip
    (ap (λ (t : TimetableView). length t.slots) c.timetable-timetable.ensures) c.in_ok-touched.ensures.counted c.repair.ensures.counted
