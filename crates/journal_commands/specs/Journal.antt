-- A journal as a script.
use Rattle.std.specs.Prelude.{ℕ, ◌+◌, List, [], ◌∷◌, ◌++◌, length, nat_le, Result, Ok, Err}
use Rattle.std.specs.List.{flat_map}
use Rattle.gtfs_tables.specs.Reading.{provided}
use Rattle.gtfs_tables.specs.Writing.{record_text}
use Rattle.gtfs_tables.specs.declared.fault.FeedFault.{FeedFault}
use Rattle.gtfs_tables.specs.declared.fault.FeedFault.TheVariants as fault
use Rattle.gtfs_tables.specs.declared.paper.Paper.TheVariants as paper
use Rattle.gtfs_tables.specs.declared.paper.TheConstants.{MOST_RECORDS}
use Rattle.edit_script.specs.declared.edit.Edit.{Edit}
use Rattle.edit_script.specs.declared.edit.Line.{Line}
use Rattle.edit_script.specs.Forms.{script_of}
use Rattle.edit_script.specs.Lines.{fields_of}
use Rattle.edit_script.specs.Script.{all_but_last}
use Rattle.desk_keeper.specs.Keeper.{Journal}
use Rattle.desk_run.specs.declared.reading.Loaded.{Loaded}
use Rattle.desk_run.specs.declared.reading.Loaded.TheVariants as loaded

-- the text of a journal: its lines, each with a line feed
abbrev pub with_feed : List ℕ → List ℕ
with_feed line = line ++ 10 ∷ []

abbrev pub journal_text : Journal → List ℕ
journal_text lines = flat_map with_feed lines

-- the canonical line of an edit: the text of its record without the line feed
abbrev pub canonical_line : Edit → List ℕ
canonical_line edit = all_but_last (record_text (fields_of edit))

-- the records of a journal are those of its text
abbrev pub text_script : List ℕ → Result (List Line) FeedFault
text_script text = script_of paper.Journal text

abbrev pub journal_script : Journal → Result (List Line) FeedFault
journal_script lines = text_script (journal_text lines)

-- those of a journal as it was loaded; one that was not asked for has none
abbrev pub lines_loaded : Loaded → Journal
lines_loaded (loaded.Lines lines) = lines
lines_loaded loaded.TooLong = []
lines_loaded loaded.Unasked = []

abbrev pub script_loaded : Loaded → Result (List Line) FeedFault
script_loaded (loaded.Lines lines) = journal_script lines
script_loaded loaded.TooLong = Err (fault.TooLong paper.Journal)
script_loaded loaded.Unasked = Ok []

-- those of a journal with more lines, which may have no more lines than another
abbrev pub script_with : Journal → Journal → Result (List Line) FeedFault
script_with journal kept = provided (nat_le (length journal + length kept) MOST_RECORDS) (fault.TooManyRecords paper.Journal)
    (journal_script (journal ++ kept))
