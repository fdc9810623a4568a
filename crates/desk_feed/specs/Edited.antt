-- A timetable after the script of its feed, and what is put of the records that were refused.
use Rattle.std.specs.Prelude.{◌≡◌, ℕ, List, ◌++◌, length}
use Rattle.edit_script.specs.declared.edit.Line.{Line}
use Rattle.trip_model.specs.Timetable.{TimetableView}
use Rattle.desk_run.specs.Outcome.{OutcomeView, putting}
use Rattle.desk_run.specs.declared.status.Ending.{Ending}
use Rattle.desk_feed.specs.declared.script.Edited.{Edited}
use Rattle.desk_feed.specs.Script.{ending_by, refused_to, some_refused, standing_at}

-- rule: the timetable after a script
-- the timetable after all records of a script, the lines of those that are refused, and how a run ends by them
abbrev pub standing_after : TimetableView → List Line → TimetableView
standing_after base lines = standing_at base lines (length lines)

abbrev pub refused_text : TimetableView → List Line → List ℕ
refused_text base lines = refused_to base lines (length lines)

abbrev pub ending_after : TimetableView → List Line → Ending
ending_after base lines = ending_by (some_refused base lines (length lines))

pub record IsEdited (base : TimetableView) (lines : List Line) (edited : Edited) : Type 0 where
  pub timetable : edited.script.timetable ≡ standing_after base lines
  pub refused : edited.refused ≡ refused_text base lines
  pub ending : edited.ending ≡ ending_after base lines

-- the lines of the refused records are put before a text
abbrev pub refusing_first : List ℕ → List ℕ → Ending → OutcomeView
refusing_first refused text ending = putting (refused ++ text) ending
