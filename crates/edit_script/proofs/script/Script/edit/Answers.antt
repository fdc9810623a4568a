use Rattle.std.proofs.Common.{◌≡◌, Result, Ok, Err, refl, sym, ap, subst, ◌∙◌}
use Rattle.std.specs.Prelude.{IfErr, IsErrAnd, IsOk}
use Rattle.edit_script.specs.Changes.{IsSlotOf}
use Rattle.edit_script.specs.Script.{IsRefusal, if_edited, stepped}
use Rattle.edit_script.specs.declared.fault.EditFault.{EditFault}
use Rattle.edit_script.specs.declared.fault.EditFault.TheVariants as fault
use Rattle.edit_script.proofs.JudgedLemmas.{IsRefusal-judged, stepped-edit}
use Rattle.edit_script.proofs.script.Script.edit.Goals as goal

-- the fault that a `?` hands on
handed : {T : Type 0} (result : Result T EditFault) (refused : EditFault) (P : EditFault → Type 0)
    → IsErrAnd result (λ other. other ≡ refused) → P refused → IfErr result P
handed (Ok x) refused P is holds = tt
handed (Err other) refused P is holds = subst P (sym is) holds

pub returns-in_err-judged-clause-refused : goal.returns-in_err-judged-clause-refused
returns-in_err-judged-clause-refused c =
    let s = c.args.self.now in
    let edit = c.args.edit.now in
    handed c.from_residual.result _ (λ refused. IsRefusal refused edit (stepped s c.args.number edit)) c.from_residual.ensures.1
    (IsRefusal-judged s c.args.number edit c.requires.trip _ c.in_err-judged.ensures)

pub returns-in_err-change-clause-refused : goal.returns-in_err-change-clause-refused
returns-in_err-change-clause-refused c =
    let s = c.args.self.now in
    let edit = c.args.edit.now in
    handed c.from_residual-in_err-change.result fault.Memory (λ refused. IsRefusal refused edit (stepped s c.args.number edit))
    c.from_residual-in_err-change.ensures.1
    (IsRefusal-judged s c.args.number edit c.requires.trip fault.Memory (subst IsOk (sym c.in_ok-judged.ensures.does) refl))

pub returns-clause-accepted : goal.returns-clause-accepted
returns-clause-accepted c =
    stepped-edit c.args.self.now c.args.number c.args.edit.now c.requires.trip
    ∙ ap (if_edited c.args.self.now c.args.number) c.in_ok-judged.ensures.does ∙ ap Ok (sym c.in_ok-change.ensures.done)

pub returns-clause-slot : goal.returns-clause-slot
returns-clause-slot c = subst (IsSlotOf c.args.edit.now c.args.self.now.timetable) (sym c.in_ok-change.ensures.slot)
    c.in_ok-judged.ensures.slot
