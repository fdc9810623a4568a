-- An edit of a trip that is judged and done makes the step of a script, or is refused as it is.
use Rattle.std.proofs.Common.{◌≡◌, ℕ, Result, Ok, Err, refl, sym, ap, subst}
use Rattle.std.specs.Prelude.{IsOk}
use Rattle.std.proofs.lemmas.Bool.{false≢true}
use Rattle.trip_model.specs.Timetable.{TimetableView}
use Rattle.edit_script.specs.declared.edit.Edit.{Edit}
use Rattle.edit_script.specs.declared.edit.Edit.TheVariants.{Undo, Redo, Show}
use Rattle.edit_script.specs.declared.fault.EditFault.{EditFault}
use Rattle.edit_script.specs.declared.fault.EditFault.TheVariants as fault
use Rattle.edit_script.specs.Changes.{edited}
use Rattle.edit_script.specs.Edits.{EditsTrip}
use Rattle.edit_script.specs.Made.{IsJudged}
use Rattle.edit_script.specs.Script.{IsRefusal, ScriptView, TakesMemory, if_edited, stepped}

pub stepped-edit : (s : ScriptView) (number : ℕ) (edit : Edit) → EditsTrip edit
    → stepped s number edit ≡ if_edited s number (edited s.timetable edit)
stepped-edit s number Undo trips = absurd trips
stepped-edit s number Redo trips = absurd trips
stepped-edit s number Show trips = absurd trips
stepped-edit s number edit trips = refl

takes-memory : (edit : Edit) → EditsTrip edit → TakesMemory edit
takes-memory Undo trips = absurd trips
takes-memory Show trips = absurd trips
takes-memory edit trips = tt

module _ (s : ScriptView) (number : ℕ) (edit : Edit) (trips : EditsTrip edit) where
  some-edited : (due : Result TimetableView EditFault) → IsOk due → IsOk (if_edited s number due)
  some-edited (Ok t) ok = refl
  some-edited (Err refused) ok = absurd (false≢true ok)

  refused-edited : (refused : EditFault) → IsJudged (Err refused) s.timetable edit
      → IsRefusal refused edit (if_edited s number (edited s.timetable edit))
  refused-edited fault.Memory ok = (takes-memory edit trips, some-edited (edited s.timetable edit) ok)
  refused-edited refused is = ap (if_edited s number) is

  pub IsRefusal-judged : (refused : EditFault) → IsJudged (Err refused) s.timetable edit → IsRefusal refused edit (stepped s number edit)
  IsRefusal-judged refused is = subst (IsRefusal refused edit) (sym (stepped-edit s number edit trips)) (refused-edited refused is)
