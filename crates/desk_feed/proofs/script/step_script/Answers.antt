use Rattle.std.proofs.Common.{◌≢◌, [], ◌∷◌, ◌++◌, None, Some, ap, rules, sym, subst}
use Rattle.edit_script.specs.Machine.{IsAt, machine, state_after, edit_record}
use Rattle.edit_script.specs.Script.{stepped}
use Rattle.edit_script.specs.declared.fault.EditFault.TheVariants as fault
use Rattle.desk_feed.specs.Script.{IsStepped, refusal_in}
use Rattle.desk_feed.proofs.ScriptLemmas.{none-refused, refusal-named}
use Rattle.desk_feed.proofs.script.step_script.Goals as goal

pub returns-in_default-step-clause-stepped : goal.returns-in_default-step-clause-stepped
returns-in_default-step-clause-stepped c =
    subst (λ line. IsStepped c.args.number line None c.args.script.now c.step.new.self) (sym c.in-Edit.is)
    (λ base records at.
    let done = c.machine_law.ensures.accepted base records c.args.script.now c.step.new.self c.args.number c.in-Edit.edit at
    c.in_default-step.ensures.accepted in
    (none-refused (state_after base (machine base records) (edit_record c.args.number c.in-Edit.edit)) done.0, done.1))

pub returns-clause-stepped : goal.returns-clause-stepped
returns-clause-stepped c =
    let named : c.in-Err.refused ≢ fault.Memory = search rules in
    let due = refusal-named c.in-Err.refused c.in-Edit.edit (stepped c.args.script.now c.args.number c.in-Edit.edit) named
    c.in-Err.ensures.refused in
    subst (λ line. IsStepped c.args.number line (Some c.in-Err.refused) c.args.script.now c.step.new.self) (sym c.in-Edit.is)
    (λ base records at.
    let done = c.machine_law.ensures.refused base records c.args.script.now c.args.number c.in-Edit.edit c.in-Err.refused at due in (
      ap refusal_in (sym done.0),
      subst (λ script. IsAt base (machine base (records ++ edit_record c.args.number c.in-Edit.edit ∷ []))
          script) (sym c.in-Err.ensures.unchanged) done.1,
    ))
