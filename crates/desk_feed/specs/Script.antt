-- The script of a feed: the state at each moment, the timetable that stands then, and what is printed of refused records.
use Rattle.std.specs.Prelude.{◌≡◌, ℕ, zero, suc, ◌+◌, ◌≤◌, Bool, false, List, [], ◌∷◌, ◌++◌, length, All, Option, None, Some, Result, Ok}
use Rattle.std.specs.Prelude.{Err, codes, slice_index_or, is_some, ◌||◌, if◌then◌else◌}
use Rattle.std.specs.Fmt.{decimal}
use Rattle.gtfs_tables.specs.declared.paper.TheConstants.{MOST_RECORDS}
use Rattle.edit_script.specs.Edits.{IsLineInForm, trip_of}
use Rattle.edit_script.specs.Lines.{fault_text_of}
use Rattle.edit_script.specs.Machine.{IsAt, Numbered, State, machine, state_after, timetable_at}
use Rattle.edit_script.specs.Script.{ScriptView}
use Rattle.edit_script.specs.declared.edit.Edit.TheVariants.{Undo, Redo, Show}
use Rattle.edit_script.specs.declared.edit.Line.{Line}
use Rattle.edit_script.specs.declared.edit.Line.TheVariants as line
use Rattle.edit_script.specs.declared.fault.EditFault.{EditFault}
use Rattle.trip_model.specs.Timetable.{TimetableView}
use Rattle.desk_run.specs.declared.status.Ending.{Ending}
use Rattle.desk_run.specs.declared.status.Ending.TheVariants as ending

-- the lines of a script are in form, and no more than there may be
pub record IsScript (lines : List Line) : Type 0 where
  pub forms : All IsLineInForm lines
  pub few : length lines ≤ MOST_RECORDS

-- the line of the n-th record, counted from 0, and the record with its number, counted from 1
abbrev pub line_at : List Line → ℕ → Line
line_at lines n = slice_index_or lines n line.NotAnEdit

abbrev pub numbered : ℕ → Line → Numbered
numbered number line = record { number = number; line = line }

abbrev pub record_at : List Line → ℕ → Numbered
record_at lines n = numbered (n + 1) (line_at lines n)

-- What is gathered of so many of the first records, one after the other: what there is before the first, and what the n-th record
-- makes of what was gathered of those before it.
unfoldable pub gathered : {A : Type 0} → A → (ℕ → A → A) → ℕ → A
gathered before next zero = before
gathered before next (suc n) = next n (gathered before next n)

-- so many of the first records
unfoldable pub first_records : List Line → ℕ → List Numbered
first_records lines = gathered [] λ n records. records ++ record_at lines n ∷ []

-- word: stands; moment = in effect; point after so many records
-- A moment is a number of records: the state after so many of the first, and the timetable that stands then.
abbrev pub state_at : TimetableView → List Line → ℕ → State
state_at base lines m = machine base (first_records lines m)

abbrev pub standing_at : TimetableView → List Line → ℕ → TimetableView
standing_at base lines m = timetable_at base (state_at base lines m)

-- what the edit machine makes of the n-th record: the state after it, or why it is refused
abbrev pub step_at : TimetableView → List Line → ℕ → Result State EditFault
step_at base lines n = state_after base (state_at base lines n) (record_at lines n)

-- the trip that the edit of a line names, as it is printed; the other edits name none
abbrev pub trip_text : Line → List ℕ
trip_text line.NotAnEdit = []
trip_text (line.Edit Undo) = []
trip_text (line.Edit Redo) = []
trip_text (line.Edit Show) = []
trip_text (line.Edit edit) = codes ", " ++ trip_of edit

-- what is put of a refused record behind its number: the trip that it names, and why it is refused
unfoldable pub reason_text : Line → EditFault → List ℕ
reason_text line refused = codes ": refused" ++ (trip_text line ++ (codes ": " ++ (fault_text_of refused ++ 10 ∷ [])))

-- rule: the line of a refused record
-- the line of a refused record
unfoldable pub refusal_line : ℕ → Line → EditFault → List ℕ
refusal_line number line refused = codes "record " ++ (decimal number ++ reason_text line refused)

-- why a record is refused, where it is
abbrev pub refusal_in : Result State EditFault → Option EditFault
refusal_in (Ok m) = None
refusal_in (Err refused) = Some refused

abbrev pub refusal_text : ℕ → Line → Option EditFault → List ℕ
refusal_text number line None = []
refusal_text number line (Some refused) = refusal_line number line refused

-- the lines of those that are refused of so many of the first records
unfoldable pub refused_to : TimetableView → List Line → ℕ → List ℕ
refused_to base lines = gathered [] λ n text. text ++ refusal_text (n + 1) (line_at lines n) (refusal_in (step_at base lines n))

-- whether one of them is refused
unfoldable pub some_refused : TimetableView → List Line → ℕ → Bool
some_refused base lines = gathered false λ n some. some || is_some (refusal_in (step_at base lines n))

-- how a run ends by that
abbrev pub ending_by : Bool → Ending
ending_by refused = if refused then ending.EditsRefused else ending.Done

-- A script that is as the machine after some records is so after one more. Where that one is refused, it is known why.
abbrev pub IsStepped : ℕ → Line → Option EditFault → ScriptView → ScriptView → Type 0
IsStepped number line refused old new = (base : TimetableView) (records : List Numbered) → IsAt base (machine base records) old
    → (refused ≡ refusal_in (state_after base (machine base records) (numbered number line)))
    × IsAt base (machine base (records ++ numbered number line ∷ [])) new

-- A script is as the machine after so many of the records, with the lines of those that were refused, and whether one was.
pub record AreRefusals (base : TimetableView) (lines : List Line) (n : ℕ) (script : ScriptView) (text : List ℕ) (some : Bool) : Type 0 where
  pub at : IsAt base (state_at base lines n) script
  pub text_is : text ≡ refused_to base lines n
  pub some_is : some ≡ some_refused base lines n
