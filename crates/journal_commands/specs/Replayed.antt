-- A script that was taken through lines: terms of the functions inside.
use Rattle.std.specs.Prelude.{◌≡◌, ℕ, ◌+◌, ◌≤◌, List, ◌++◌, ◌||◌, string_bytes}
use Rattle.edit_script.specs.declared.edit.Line.{Line}
use Rattle.edit_script.specs.Machine.{IsAt, Numbered, machine}
use Rattle.trip_model.specs.Timetable.{TimetableView}
use Rattle.journal_commands.specs.declared.replay.Replay.{Replay}
use Rattle.journal_commands.specs.declared.replay.Source.{Source}
use Rattle.journal_commands.specs.Replay.{answers_to, kept_to, records_from, some_to}

-- it is where the machine is after the lines, and what is put and kept of them was added
pub record IsThrough (base : TimetableView) (first : List Numbered) (source : Source) (before : ℕ) (lines : List Line) (n : ℕ)
    (was now : Replay) : Type 0 where
  pub at : IsAt base (machine base (first ++ records_from before lines n)) now.script
  pub text : string_bytes now.text ≡ string_bytes was.text ++ answers_to base first source before lines n
  pub kept : now.kept.items ≡ was.kept.items ++ kept_to base first source before lines n
  pub some : now.some ≡ (was.some || some_to base first source before lines n)

-- it is so wherever it was before, and its records are numbered on
pub record HasReplayed (lines : List Line) (n : ℕ) (was now : Replay) : Type 0 where
  pub source : now.source ≡ was.source
  pub before : now.before ≡ was.before
  pub last : now.script.last ≤ was.before + n
  pub through : (base : TimetableView) (first : List Numbered) → IsAt base (machine base first) was.script
      → IsThrough base first was.source was.before lines n was now
