-- What `kept` asks, and what it does.
use Rattle.std.specs.Prelude.{◌≡◌, ℕ, true, List, [], ◌∷◌, length, None, codes, Result, Ok, Err}
use Rattle.gtfs_tables.specs.Papers.{file_name_of}
use Rattle.gtfs_tables.specs.declared.fault.FeedFault.{FeedFault}
use Rattle.gtfs_tables.specs.declared.paper.Paper.TheVariants as paper
use Rattle.edit_script.specs.declared.edit.Line.{Line}
use Rattle.desk_keeper.specs.Keeper.{Journal}
use Rattle.desk_run.specs.Commands.{Asked}
use Rattle.desk_run.specs.Outcome.{OutcomeView}
use Rattle.desk_run.specs.Reading.{ReadView}
use Rattle.desk_run.specs.declared.status.Ending.TheVariants as ending
use Rattle.desk_feed.specs.Judging.{refusing}
use Rattle.journal_commands.specs.Journal.{journal_text, lines_loaded, script_loaded}
use Rattle.journal_commands.specs.Keep.{records_line}

-- the text of the journal is written as a script, and how many records it has is put; a journal that is none is refused
abbrev pub writing_lines : Journal → ℕ → OutcomeView
writing_lines lines records = record {
  writes = record { name = file_name_of paper.Edits; bytes = journal_text lines } ∷ [];
  lines = None;
  text = records_line (codes "kept ") records;
  ending = ending.Done;
}

abbrev pub writing_journal : Journal → Result (List Line) FeedFault → OutcomeView
writing_journal lines (Ok script) = writing_lines lines (length script)
writing_journal lines (Err refused) = refusing refused

-- what `kept` does of what was read
abbrev pub kept_of : ReadView → OutcomeView
kept_of read = writing_journal (lines_loaded read.journal) (script_loaded read.journal)

-- what `kept` asks of a run
abbrev pub kept_asked : Asked
kept_asked = record {
  papers = [];
  keeps = true;
  Ends = λ read end. end ≡ (kept_of read).ending;
  Gives = λ read outcome. outcome ≡ kept_of read;
  most = λ read. 0;
}
