use Rattle.std.proofs.Common.{◌≢◌, [], ◌∷◌, ◌++◌, None, Some, ap, rules, sym, subst}
use Rattle.edit_script.specs.Machine.{IsAt, edit_record, machine, state_after}
use Rattle.edit_script.specs.Script.{stepped}
use Rattle.edit_script.specs.declared.fault.EditFault.TheVariants as fault
use Rattle.desk_core.specs.Desk.{DeskView}
use Rattle.desk_feed.specs.Script.{IsStepped, refusal_in}
use Rattle.desk_feed.proofs.ScriptLemmas.{none-refused}
use Rattle.feed_desk.specs.Moments.{IsFollowed}
use Rattle.feed_desk.proofs.MomentsLemmas.{next-of, refusal-named}
use Rattle.feed_desk.proofs.follow.step_desk.Goals as goal

pub returns-in_default-apply-clause-stepped : goal.returns-in_default-apply-clause-stepped
returns-in_default-apply-clause-stepped g c =
    subst (λ line. IsStepped c.args.number line None c.args.desk.now.script c.apply.new.self.script) (sym c.in-Edit.is)
    (λ base records at.
    let done = c.machine_law.ensures.accepted base records c.args.desk.now.script c.apply.new.self.script c.args.number c.in-Edit.edit at
    c.in_default-apply.ensures.done.script in
    (none-refused (state_after base (machine base records) (edit_record c.args.number c.in-Edit.edit)) done.0, done.1))

pub returns-clause-stepped : goal.returns-clause-stepped
returns-clause-stepped g c =
    let named : c.in-Err.refused ≢ fault.Memory = search rules in
    let due = refusal-named c.in-Err.refused c.in-Edit.edit (stepped c.args.desk.now.script c.args.number c.in-Edit.edit) named
    c.in-Err.ensures.refused in
    subst (λ line. IsStepped c.args.number line (Some c.in-Err.refused) c.args.desk.now.script c.apply.new.self.script) (sym c.in-Edit.is)
    (λ base records at.
    let done = c.machine_law.ensures.refused base records c.args.desk.now.script c.args.number c.in-Edit.edit c.in-Err.refused at due in (
      ap refusal_in (sym done.0),
      subst (λ (desk : DeskView). IsAt base
          (machine base (records ++ edit_record c.args.number c.in-Edit.edit ∷ [])) desk.script) (sym c.in-Err.ensures.unchanged) done.1,
    ))

pub returns-in_default-apply-clause-followed : goal.returns-in_default-apply-clause-followed
returns-in_default-apply-clause-followed g c =
    subst (λ line. IsFollowed line None c.args.desk.now c.apply.new.self) (sym c.in-Edit.is)
    (record {
      number = c.args.number;
      next = next-of c.args.desk.now.script c.args.number c.in-Edit.edit c.requires.next;
      done = c.in_default-apply.ensures.done;
    })

pub returns-clause-followed : goal.returns-clause-followed
returns-clause-followed g c = subst (λ line. IsFollowed line (Some c.in-Err.refused) c.args.desk.now c.apply.new.self) (sym c.in-Edit.is)
    c.in-Err.ensures.unchanged
