-- What `keep` asks, and what it does.
use Rattle.std.specs.Prelude.{◌≡◌, ℕ, Bool, true, List, [], ◌∷◌, ◌++◌, length, map, All, Some, codes, Result, Ok, Err, ⊤, ◌||◌}
use Rattle.std.specs.Fmt.{decimal}
use Rattle.gtfs_tables.specs.declared.fault.FeedFault.{FeedFault}
use Rattle.edit_script.specs.declared.edit.Edit.{Edit}
use Rattle.edit_script.specs.declared.edit.Line.{Line}
use Rattle.edit_script.specs.declared.edit.Line.TheVariants as line
use Rattle.edit_script.specs.Edits.{HasTexts, InForm}
use Rattle.edit_script.specs.Machine.{Numbered, machine, timetable_at}
use Rattle.trip_model.specs.Timetable.{TimetableView}
use Rattle.desk_keeper.specs.Keeper.{Journal}
use Rattle.desk_run.specs.Commands.{Asked}
use Rattle.desk_run.specs.Outcome.{OutcomeView}
use Rattle.desk_run.specs.Reading.{ReadView}
use Rattle.desk_run.specs.declared.status.Ending.{Ending}
use Rattle.desk_feed.specs.Feed.{FeedView}
use Rattle.desk_feed.specs.Judging.{FeedAsked, of_feed, refusing}
use Rattle.desk_feed.specs.Script.{ending_by}
use Rattle.journal_commands.specs.Journal.{canonical_line, lines_loaded, script_loaded, script_with}
use Rattle.journal_commands.specs.Replay.{all_records, answers_to, kept_to, some_to}
use Rattle.journal_commands.specs.declared.replay.Source.TheVariants as source

-- a line that tells a number of records
abbrev pub records_line : List ℕ → ℕ → List ℕ
records_line word number = word ++ (decimal number ++ (codes " records" ++ 10 ∷ []))

-- the records of a journal, and then those of a script
module _ (base : TimetableView) (journal lines : List Line) where
  abbrev journal_records : List Numbered
  journal_records = all_records 0 journal

  -- what is put of both: how many records the journal had, which of them are refused, and the answer to each record of the
  -- script
  abbrev pub answers : List ℕ
  answers = records_line (codes "journal ") (length journal)
      ++ (answers_to base [] source.Journal 0 journal (length journal)
      ++ answers_to base journal_records source.Edits (length journal) lines (length lines))

  -- the lines that are appended to the journal: those of the script's accepted records, but of no show
  abbrev pub kept_lines : Journal
  kept_lines = kept_to base journal_records source.Edits (length journal) lines (length lines)

  -- whether a record of either is refused
  abbrev pub either_refused : Bool
  either_refused = some_to base [] source.Journal 0 journal (length journal) || some_to base journal_records source.Edits (length journal)
      lines (length lines)

-- what is done: the lines are appended. The answers are put, and then how many records the journal has. Or it would have more
-- than it may have, and that is put
abbrev pub appending : List ℕ → Journal → Ending → Result (List Line) FeedFault → OutcomeView
appending text kept end (Ok lines) =
    record { writes = []; lines = Some kept; text = text ++ records_line (codes "kept ") (length lines); ending = end }
appending text kept end (Err refused) = refusing refused

abbrev pub keeping_lines : TimetableView → Journal → List Line → List Line → OutcomeView
keeping_lines base stored journal lines =
    appending (answers base journal lines) (kept_lines base journal lines) (ending_by (either_refused base journal lines))
    (script_with stored (kept_lines base journal lines))

-- a journal that is none is refused
abbrev pub keeping_by : TimetableView → Journal → List Line → Result (List Line) FeedFault → OutcomeView
keeping_by base stored lines (Ok journal) = keeping_lines base stored journal lines
keeping_by base stored lines (Err refused) = refusing refused

-- rule: what `keep` appends to the journal
abbrev pub keeping : ReadView → FeedView → OutcomeView
keeping read said = keeping_by said.base (lines_loaded read.journal) said.lines (script_loaded read.journal)

-- an edit that can be written and read: it is in form, and its names are texts
abbrev pub IsWritable : Edit → Type 0
IsWritable edit = InForm edit × HasTexts edit

abbrev pub IsWritableLine : Line → Type 0
IsWritableLine (line.Edit edit) = IsWritable edit
IsWritableLine line.NotAnEdit = ⊤

-- the timetable that stands after the records of a script alone, and after those of a journal and then of a script
abbrev pub standing_alone : TimetableView → List Line → TimetableView
standing_alone base lines = timetable_at base (machine base (all_records 0 lines))

abbrev pub standing_along_both : TimetableView → List Line → List Line → TimetableView
standing_along_both base journal lines = timetable_at base (machine base (all_records 0 journal ++ all_records (length journal) lines))

-- Where each line of a journal is a canonical line, the journal that `keep` leaves, replayed alone, gives the timetable that
-- stood at its end.
abbrev pub Replays : TimetableView → List Line → Type 0
Replays base lines =
    (stored : List Edit) (script : List Line) → All IsWritable stored → All IsWritableLine lines
    → script_with (map canonical_line stored) (kept_lines base (map line.Edit stored) lines) ≡ Ok script
    → standing_alone base script ≡ standing_along_both base (map line.Edit stored) lines

-- what `keep` gives of what was read; and the journal that it leaves replays
pub record Keeps (read : ReadView) (said : FeedView) (outcome : OutcomeView) : Type 0 where
  pub done : outcome ≡ keeping read said
  pub replays : Replays said.base said.lines

-- what `keep` asks of a feed
abbrev pub keep_does : FeedAsked
keep_does = record {
  further = [];
  keeps = true;
  Ends = λ read said end. end ≡ (keeping read said).ending;
  Gives = Keeps;
  most = λ read said. 0;
}

-- what `keep` asks of a run
unfoldable pub keep_asked : Asked
keep_asked = of_feed keep_does
