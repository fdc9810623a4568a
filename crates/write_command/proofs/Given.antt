-- What `write` gives of an accepted feed is what it asks.
use Rattle.std.proofs.Common.{◌≡◌, inl, inr, ℕ, zero, suc, ◌≤◌, List, [], ◌++◌, length, None, Result, Ok, Err, sym, ap, subst, ◌∙◌, arith}
use Rattle.std.specs.Prelude.{All, IfOk, IsUtf8}
use Rattle.std.proofs.lemmas.List.Elements.{All-get_or}
use Rattle.desk_io.specs.declared.shelf.Found.{Found}
use Rattle.gtfs_tables.specs.Reading.{table_in}
use Rattle.gtfs_tables.specs.Table.{TableView}
use Rattle.gtfs_tables.specs.declared.fault.FeedFault.{FeedFault}
use Rattle.gtfs_tables.specs.declared.paper.Column.{Column}
use Rattle.gtfs_tables.specs.declared.paper.Paper.{Paper}
use Rattle.block_writer.specs.StopTimes.{stop_times_written}
use Rattle.block_writer.specs.Texts.{AreTexts, IsFirstBad, IsRefusedPaper, IsTextPaper, record_at}
use Rattle.plan_choice.specs.Likings.{LikingsView}
use Rattle.desk_run.specs.Outcome.{OutcomeView}
use Rattle.desk_run.specs.Reading.{ReadView}
use Rattle.desk_feed.specs.Feed.{FeedView}
use Rattle.desk_feed.specs.Judging.{refusing}
use Rattle.trip_model.specs.Timetable.{TimetableView}
use Rattle.deadhead_matrix.specs.Matrix.{MatrixView}
use Rattle.desk_feed.specs.Schedule.{IsMatrixFor}
use Rattle.block_names.specs.Names.{NamingView, names_of}
use Rattle.feed_likings.specs.Likings.{likings_in}
use Rattle.feed_naming.specs.Commands.{IsGivenNamed}
use Rattle.feed_desk.specs.Drawn.{HasDrawn, IsDrawn}
use Rattle.feed_desk.specs.declared.draw.Drawn.{Drawn}
use Rattle.write_command.specs.declared.write.Writable.TheVariants.{Texts, Refused}
use Rattle.write_command.specs.Writable.{IsWritable, IsWrittenOf}
use Rattle.write_command.proofs.ReadAgain.{read-again}
use Rattle.write_command.specs.Write.{EndsBy, IsRefusal, IsWritten, Writes, WritesBy, files_of, stop_times_in, trips_table, write_named}
use Rattle.write_command.specs.Write.{written_line}

-- a table with a field that is not UTF-8 is not one of texts
bad-table : (table : TableView) (number place : ℕ) → IsFirstBad table number place → ¬ AreTexts table
bad-table table number place bad texts =
    bad.field.bad (All-get_or IsUtf8 (record_at table number) place [] bad.field.within (row number bad.within))
  where
    row : (k : ℕ) → k ≤ length table.rows → All IsUtf8 (record_at table k)
    row zero le = texts.header
    row (suc k) le = All-get_or (All IsUtf8) table.rows k [] (omega (arith, le)) texts.rows

refused-ends : (paper : Paper) (columns : List Column) (table : TableView) (outcome : OutcomeView)
    → IsRefusal paper columns (Ok table) outcome → ¬ AreTexts table
refused-ends paper columns table outcome is = bad-table table is.for.number is.for.place is.for.first

-- how a run ends that does this
ends-by : (likings : LikingsView) (naming : NamingView) (said : FeedView) (trips stop_times : Result TableView FeedFault) (outcome : OutcomeView)
    → WritesBy likings naming said trips stop_times outcome → EndsBy said trips stop_times outcome.ending
ends-by likings naming said (Err due) stop_times outcome (inl bad) = ap (λ (o : OutcomeView). o.ending) bad.done
ends-by likings naming said (Err due) stop_times outcome (inr (inl none)) = absurd none
ends-by likings naming said (Err due) stop_times outcome (inr (inr none)) = absurd none
ends-by likings naming said (Ok trips) (Err due) outcome (inl bad) = ap (λ (o : OutcomeView). o.ending) bad.done
ends-by likings naming said (Ok trips) (Err due) outcome (inr (inl bad)) = ap (λ (o : OutcomeView). o.ending) bad.1.done
ends-by likings naming said (Ok trips) (Err due) outcome (inr (inr (texts, none))) = absurd none
ends-by likings naming said (Ok trips) (Ok stop_times) outcome (inl bad) =
    let end = ap (λ (o : OutcomeView). o.ending) bad.done in
    record {
      texts = λ one other. absurd (refused-ends _ _ trips outcome bad one);
      trips_refused = λ no. end;
      stop_times_refused = λ no. end;
    }
ends-by likings naming said (Ok trips) (Ok stop_times) outcome (inr (inl bad)) =
    let end = ap (λ (o : OutcomeView). o.ending) bad.1.done in
    record {
      texts = λ one other. absurd (refused-ends _ _ stop_times outcome bad.1 other);
      trips_refused = λ no. end;
      stop_times_refused = λ no. end;
    }
ends-by likings naming said (Ok trips) (Ok stop_times) outcome (inr (inr does)) =
    record {
      texts = λ one other. ap (λ (o : OutcomeView). o.ending) does.1.1.done;
      trips_refused = λ no. absurd (no does.0);
      stop_times_refused = λ no. absurd (no does.1.0);
    }

-- and no line is kept
unkept-by : (likings : LikingsView) (naming : NamingView) (said : FeedView) (trips stop_times : Result TableView FeedFault) (outcome : OutcomeView)
    → WritesBy likings naming said trips stop_times outcome → outcome.lines ≡ None
unkept-by likings naming said trips stop_times outcome (inl bad) = ap (λ (o : OutcomeView). o.lines) bad.done
unkept-by likings naming said (Err due) stop_times outcome (inr (inl none)) = absurd none
unkept-by likings naming said (Err due) stop_times outcome (inr (inr none)) = absurd none
unkept-by likings naming said (Ok trips) stop_times outcome (inr (inl bad)) = ap (λ (o : OutcomeView). o.lines) bad.1.done
unkept-by likings naming said (Ok trips) (Err due) outcome (inr (inr (texts, none))) = absurd none
unkept-by likings naming said (Ok trips) (Ok stop_times) outcome (inr (inr does)) = ap (λ (o : OutcomeView). o.lines) does.1.1.done

pub write-given : {E : Type 0} (read : ReadView) (naming : NamingView) (said : FeedView) (result : Result OutcomeView E)
    → IfOk result (Writes read naming said) → IfOk result (IsGivenNamed write_named read naming said)
write-given read naming said (Err e) does = tt
write-given read naming said (Ok outcome) does = record {
  gives = does;
  ends = ends-by (likings_in read said.settings said.base) naming said (trips_table read) (stop_times_in read) outcome does;
  unkept = unkept-by (likings_in read said.settings said.base) naming said (trips_table read) (stop_times_in read) outcome does;
}

-- a refusal of what was found of a paper is told
pub told-refusal : (paper : Paper) (columns known : List Column) (found there : Found) (refused : FeedFault) (outcome : OutcomeView)
    → columns ≡ known → found ≡ there
    → IsRefusedPaper paper columns (table_in paper found) refused → outcome ≡ refusing refused
    → IsRefusal paper known (table_in paper there) outcome
told-refusal paper columns known found there refused outcome same at is told = record {
  refused = refused;
  for = subst (λ columns. IsRefusedPaper paper columns (table_in paper there) refused) same
      (subst (λ found. IsRefusedPaper paper columns (table_in paper found) refused) at is);
  done = told;
}

-- what is said beside a paper of texts
pub beside-texts : {Beside : Type 0} (paper_table there : Result TableView FeedFault) (table : TableView) → paper_table ≡ there
    → IsTextPaper (λ read. read ≡ table) paper_table → Beside
    → IsTextPaper (λ read. Beside) there
beside-texts {Beside} paper_table there table same is beside = subst (IsTextPaper (λ read. Beside)) same (by paper_table is)
  where
    by : (paper_table : Result TableView FeedFault) → IsTextPaper (λ read. read ≡ table) paper_table
        → IsTextPaper (λ read. Beside) paper_table
    by (Ok read) is = (is.0, beside)
    by (Err due) is = absurd is

-- the table of a paper of texts has texts
pub texts-of : (paper_table : Result TableView FeedFault) (table : TableView) → IsTextPaper (λ read. read ≡ table) paper_table
    → AreTexts table
texts-of (Ok read) table is = subst AreTexts is.1 is.0
texts-of (Err due) table is = absurd is

-- the refusal of one of two papers is what is done
pub refused-by : (likings : LikingsView) (naming : NamingView) (said : FeedView) (timetable : TimetableView) (base : ℕ) (trips stop_times : Result TableView FeedFault)
    (outcome : OutcomeView)
    → IsWritable said.settings timetable base trips stop_times (Refused outcome) → WritesBy likings naming said trips stop_times outcome
refused-by likings naming said timetable base trips stop_times outcome (inl bad) = inl bad
refused-by likings naming said timetable base trips stop_times outcome (inr bad) = inr (inl bad)

-- else both files are written
both-by : (likings : LikingsView) (naming : NamingView) (said : FeedView) (timetable : TimetableView) (base : ℕ) (trips stop_times : Result TableView FeedFault) (table : TableView)
    (text : List ℕ) (outcome : OutcomeView)
    → IsTextPaper (λ first. first ≡ table) trips → IsTextPaper (λ second. text ≡ stop_times_written second timetable base) stop_times
    → ((second : TableView) → text ≡ stop_times_written second timetable base → IsWritten likings naming said table second outcome)
    → WritesBy likings naming said trips stop_times outcome
both-by likings naming said timetable base (Ok first) (Ok second) table text outcome one other does =
    inr (inr (one.0, (other.0, subst (λ first. IsWritten likings naming said first second outcome) (sym one.1) (does second other.1))))
both-by likings naming said timetable base (Ok first) (Err due) table text outcome one other does = absurd other
both-by likings naming said timetable base (Err due) stop_times table text outcome one other does = absurd one

-- of the plan after the script
pub written-given : {D E : Type 0} (read : ReadView) (naming : NamingView) (said : FeedView) (matrix : MatrixView) (likings : LikingsView) (drawn : Drawn D)
    (timetable : TimetableView) (base : ℕ) (table : TableView) (text : List ℕ)
    → IsMatrixFor said matrix → HasDrawn said.base said.lines matrix likings drawn → likings ≡ likings_in read said.settings said.base → timetable ≡ drawn.desk.script.timetable
    → base ≡ length said.base.slots
    → IsWritable said.settings timetable base (trips_table read) (stop_times_in read) (Texts table text)
    → (result : Result OutcomeView E) → IfOk result (IsWrittenOf said.settings naming drawn table text)
    → IfOk result (Writes read naming said)
written-given read naming said matrix likings drawn timetable base table text is has liked same count writable (Err e) written = tt
written-given read naming said matrix likings drawn timetable base table text is has liked same count writable (Ok outcome) written =
    both-by (likings_in read said.settings said.base) naming said timetable base (trips_table read) (stop_times_in read) table text outcome writable.0 writable.1
    (λ second made. record {
      matrix = matrix;
      matrix_is = is;
      plan = drawn.desk.plan;
      blocks = drawn.blocks;
      drawn = subst (λ l. IsDrawn said.base said.lines matrix l drawn.desk.plan drawn.blocks) liked has.plan;
      named = written.named;
      again = read-again naming said table second drawn.blocks;
      done = written.done ∙ (λ i. record {
        writes = files_of said.settings (has.timetable i) drawn.blocks (names_of naming drawn.blocks) table
            ((made ∙ (λ j. stop_times_written second ((same ∙ has.timetable) j) (count j))) i);
        lines = None;
        text = has.refused i ++ written_line;
        ending = has.ending i;
      });
    })
