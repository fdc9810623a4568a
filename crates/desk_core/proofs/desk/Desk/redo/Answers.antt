use Rattle.std.proofs.Common.{◌≡◌, Ok, refl, subst, sym}
use Rattle.edit_script.specs.Script.{stepped}
use Rattle.desk_core.specs.Desk.{DeskView, IsDone, desk_seen, plans_of}
use Rattle.desk_core.proofs.PlansLemmas.{plans-redone}
use Rattle.desk_core.proofs.DeskLemmas.{redo-there, IsDesk-redone}
use Rattle.desk_core.proofs.desk.Desk.redo.Goals as goal

pub redo-requires : goal.redo-requires
redo-requires g c =
    redo-there c.self.inside.script c.step.new.script c.self.inside.matrix c.self.inside.history c.args.number
    c.args.edit.now c.self.invariant.0 c.requires.is c.in_ok-step.ensures.accepted

pub invariant_of-self-2 : goal.invariant_of-self-2
invariant_of-self-2 g c = (
  IsDesk-redone c.self.inside.script c.step.new.script c.self.inside.matrix c.self.inside.history c.redo.new.self c.args.number
      c.args.edit.now c.self.invariant.0 c.requires.is c.in_ok-step.ensures.accepted c.in_ok-step.ensures.places c.redo.ensures.later
      c.redo.ensures.earlier,
  c.in_ok-step.ensures.with,
)

pub returns-clause-done : goal.returns-clause-done
returns-clause-done g c =
    let old = desk_seen c.self.inside.script c.self.inside.matrix c.self.inside.history in
    let new = desk_seen c.step.new.script c.self.inside.matrix c.redo.new.self in
    subst (λ (d : DeskView). IsDone c.args.number c.args.edit.now d new) c.self.view_is
    (subst (λ e. IsDone c.args.number e old new) (sym c.requires.is) (record {
      script = subst (λ e. stepped old.script c.args.number e ≡ Ok new.script) c.requires.is c.in_ok-step.ensures.accepted;
      matrix = refl;
      links = tt;
      plans = plans-redone (plans_of old) (plans_of new) (record { later = c.redo.ensures.later; earlier = c.redo.ensures.earlier });
    }))
