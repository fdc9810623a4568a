-- What a script is seen as by the changes that it keeps.
use Rattle.std.specs.Prelude.{◌≡◌, ℕ, List, ◌++◌, map}
use Rattle.trip_model.specs.Timetable.{TimetableView}
use Rattle.undo_log.specs.Log.{LogView}
use Rattle.edit_script.specs.declared.changes.Change.{Change}
use Rattle.edit_script.specs.Made.{MayMake, WasMade, with_change, without_change}
use Rattle.edit_script.specs.Script.{IsRising, ScriptView, numbers_along}
use Rattle.edit_script.specs.Timetables.{FitAlong, timetables_past}

-- the numbers of changes
abbrev pub numbers : List Change → List ℕ
numbers changes = map (λ (change : Change). change.number) changes

-- the script with this timetable, these changes that can be undone and redone, and these numbers
abbrev pub script_seen : TimetableView → LogView Change → List ℕ → ℕ → ℕ → ScriptView
script_seen t log standing last shows = record {
  timetable = t;
  standing = standing;
  undone = numbers log.undone;
  last = last;
  shows = shows;
  earlier = timetables_past without_change t log.kept;
  later = timetables_past with_change t log.undone;
}

-- each kept change was made, and each undone one can be made again. The numbers of the kept ones are the newest that stand, and
-- numbers rise
pub record IsKept (t : TimetableView) (log : LogView Change) (standing : List ℕ) (last : ℕ) : Type 0 where
  pub made : FitAlong without_change WasMade t log.kept
  pub undone : FitAlong with_change MayMake t log.undone
  pub numbered : (front : List ℕ) × (standing ≡ front ++ numbers log.kept)
  pub rising : IsRising last (numbers_along standing (numbers log.undone))
