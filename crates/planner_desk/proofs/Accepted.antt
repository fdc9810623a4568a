-- An edit that is accepted is judged, unless memory is wanted.
use Rattle.std.proofs.Common.{◌≡◌, Err, refl, subst}
use Rattle.std.specs.Prelude.{IsOk}
use Rattle.std.proofs.lemmas.Bool.{false≢true}
use Rattle.trip_model.specs.Timetable.{TimetableView}
use Rattle.edit_script.specs.declared.edit.Edit.{Edit}
use Rattle.edit_script.specs.declared.fault.EditFault.{EditFault}
use Rattle.edit_script.specs.declared.fault.EditFault.TheVariants as fault
use Rattle.edit_script.specs.Changes.{edited}
use Rattle.edit_script.specs.Made.{IsJudged}

pub accepted-wants : (t : TimetableView) (edit : Edit) → IsOk (edited t edit) → (refused : EditFault) → IsJudged (Err refused) t edit
    → refused ≡ fault.Memory
accepted-wants t edit ok fault.Memory is = refl
accepted-wants t edit ok refused is = absurd (false≢true (subst IsOk is ok))
