-- Moments of a desk, as records are applied to it.
use Rattle.std.specs.Prelude.{◌≡◌, ℕ, List, [], ◌∷◌}
use Rattle.edit_script.specs.Script.{IsNext, opened}
use Rattle.edit_script.specs.declared.edit.Edit.{Edit}
use Rattle.trip_model.specs.Timetable.{TimetableView}
use Rattle.desk_core.specs.Desk.{DeskView, IsDone}

-- the edit of a record of that number may be applied, and is done
pub record IsApplied (old new : DeskView) : Type 0 where
  pub number : ℕ
  pub edit : Edit
  pub next : IsNext old.script number edit
  pub done : IsDone number edit old new

-- from a desk along its next moments to a last one: each edit that is not refused is done, and a refused one changes nothing
abbrev pub IsLed : DeskView → List DeskView → DeskView → Type 0
IsLed first [] last = last ≡ first
IsLed first (next ∷ moments) last = IsApplied first next × IsLed next moments last

-- a desk to which nothing was done
pub record IsOpened (desk : DeskView) : Type 0 where
  pub timetable : TimetableView
  pub script : desk.script ≡ opened timetable
  pub earlier : desk.earlier ≡ []
  pub later : desk.later ≡ []
