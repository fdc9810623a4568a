use Rattle.std.proofs.Common.{ℕ, refl, subst}
use Rattle.edit_script.specs.declared.edit.Edit.TheVariants as edit
use Rattle.desk_core.specs.Desk.{DeskView, IsDone, desk_seen, plans_of}
use Rattle.desk_core.proofs.PlansLemmas.{plans-undone}
use Rattle.desk_core.proofs.DeskLemmas.{undo-there, IsDesk-undone}
use Rattle.desk_core.proofs.desk.Desk.undo.Goals as goal

pub undo-requires : goal.undo-requires
undo-requires g c = undo-there c.self.inside.script c.step.new.script c.self.inside.matrix c.self.inside.history 0
    c.self.invariant.0 c.in_ok-step.ensures.accepted

pub invariant_of-self-2 : goal.invariant_of-self-2
invariant_of-self-2 g c = (
  IsDesk-undone c.self.inside.script c.step.new.script c.self.inside.matrix c.self.inside.history c.undo.new.self 0
      c.self.invariant.0 c.in_ok-step.ensures.accepted c.in_ok-step.ensures.places c.undo.ensures.earlier c.undo.ensures.later,
  c.in_ok-step.ensures.with,
)

pub returns-clause-done : goal.returns-clause-done
returns-clause-done g c =
    let old = desk_seen c.self.inside.script c.self.inside.matrix c.self.inside.history in
    let new = desk_seen c.step.new.script c.self.inside.matrix c.undo.new.self in
    subst (λ (d : DeskView). (number : ℕ) → IsDone number edit.Undo d new) c.self.view_is (λ number. record {
      script = c.in_ok-step.ensures.accepted;
      matrix = refl;
      links = tt;
      plans = plans-undone (plans_of old) (plans_of new) (record { earlier = c.undo.ensures.earlier; later = c.undo.ensures.later });
    })
