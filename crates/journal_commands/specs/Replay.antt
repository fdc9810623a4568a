-- The records of the journal and of the script, one after the other, through the edit machine.
use Rattle.std.specs.Prelude.{ℕ, ◌+◌, Bool, false, List, [], ◌∷◌, ◌++◌, length, Option, None, Some, codes, is_some, ◌||◌}
use Rattle.std.specs.Fmt.{decimal}
use Rattle.edit_script.specs.declared.edit.Edit.TheVariants.{Show}
use Rattle.edit_script.specs.declared.edit.Line.{Line}
use Rattle.edit_script.specs.declared.edit.Line.TheVariants as line
use Rattle.edit_script.specs.declared.fault.EditFault.{EditFault}
use Rattle.edit_script.specs.Machine.{Numbered, machine, state_after}
use Rattle.trip_model.specs.Timetable.{TimetableView}
use Rattle.desk_keeper.specs.Keeper.{Journal}
use Rattle.desk_feed.specs.Script.{gathered, line_at, numbered, reason_text, refusal_in, refusal_line}
use Rattle.journal_commands.specs.Journal.{canonical_line}
use Rattle.journal_commands.specs.declared.replay.Source.{Source}
use Rattle.journal_commands.specs.declared.replay.Source.TheVariants as source

-- what is put of a record: of one of the journal only that it is refused; the numbers count each of the two from 1
abbrev pub answer_line : Source → ℕ → Line → Option EditFault → List ℕ
answer_line source.Journal number line None = []
answer_line source.Journal number line (Some refused) = codes "journal " ++ (decimal number ++ reason_text line refused)
answer_line source.Edits number line None = codes "record " ++ (decimal number ++ (codes ": ok" ++ 10 ∷ []))
answer_line source.Edits number line (Some refused) = refusal_line number line refused

-- what is kept of a record: of an accepted one of the script its canonical line, but not of a show
abbrev pub kept_line : Source → Line → Option EditFault → Journal
kept_line source.Journal line refusal = []
kept_line source.Edits (line.Edit Show) refusal = []
kept_line source.Edits (line.Edit edit) None = canonical_line edit ∷ []
kept_line source.Edits (line.Edit edit) (Some refused) = []
kept_line source.Edits line.NotAnEdit refusal = []

-- so many of the first of some lines, as records that are numbered on from a number
unfoldable pub records_from : ℕ → List Line → ℕ → List Numbered
records_from before lines = gathered [] λ n records. records ++ numbered (before + (n + 1)) (line_at lines n) ∷ []

-- all of them
abbrev pub all_records : ℕ → List Line → List Numbered
all_records before lines = records_from before lines (length lines)

-- lines that follow so many records as there are numbers before them
module _ (base : TimetableView) (first : List Numbered) (source : Source) (before : ℕ) (lines : List Line) where
  -- why the n-th of them is refused, where it is
  abbrev pub refusal_at : ℕ → Option EditFault
  refusal_at n = refusal_in (state_after base (machine base (first ++ records_from before lines n))
      (numbered (before + (n + 1)) (line_at lines n)))

  -- what is put of so many of them, what is kept, and whether one is refused
  unfoldable pub answers_to : ℕ → List ℕ
  answers_to = gathered [] λ n text. text ++ answer_line source (n + 1) (line_at lines n) (refusal_at n)

  unfoldable pub kept_to : ℕ → Journal
  kept_to = gathered [] λ n kept. kept ++ kept_line source (line_at lines n) (refusal_at n)

  unfoldable pub some_to : ℕ → Bool
  some_to = gathered false λ n some. some || is_some (refusal_at n)
