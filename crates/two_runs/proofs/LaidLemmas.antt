-- What is written of a feed, and what the files say when it is laid.
use Rattle.std.proofs.Common.{◌≡◌, inl, inr, ℕ, ◌≤◌, Bool, true, false, nat_le, List, [], ◌∷◌, length, Option, Some, None, Result, Ok, Err}
use Rattle.std.proofs.Common.{refl, sym, ap, subst, ◌∙◌, arith}
use Rattle.std.specs.Prelude.{if◌then◌else◌}
use Rattle.std.proofs.lemmas.Bool.{leb-true}
use Rattle.std.specs.FinMap.{get}
use Rattle.desk_io.specs.Shelf.{Files, ShelfState, found_as}
use Rattle.desk_io.specs.declared.shelf.Found.{Found}
use Rattle.desk_io.specs.declared.shelf.Found.TheVariants.{File, Missing, TooLong}
use Rattle.gtfs_tables.specs.Papers.{file_name_of}
use Rattle.gtfs_tables.specs.Reading.{◌>>=◌, or_refused, table_in}
use Rattle.gtfs_tables.specs.Records.{records}
use Rattle.gtfs_tables.specs.Table.{TableView, IsTable, body_of, table_from, table_of, with_header}
use Rattle.gtfs_tables.specs.declared.fault.FeedFault.{FeedFault}
use Rattle.gtfs_tables.specs.declared.paper.Paper.{Paper}
use Rattle.gtfs_tables.specs.declared.paper.Paper.TheVariants as paper
use Rattle.gtfs_tables.specs.declared.paper.TheConstants.{MOST_BYTES}
use Rattle.gtfs_tables.specs.declared.table.TableFault.{TableFault}
use Rattle.gtfs_tables.proofs.Body.{body-rows}
use Rattle.gtfs_tables.proofs.CsvRecords.{length-records-le}
use Rattle.desk_settings.specs.Settings.{SettingsView, settings_of}
use Rattle.trip_model.specs.Timetable.{TimetableView}
use Rattle.edit_script.specs.declared.edit.Line.{Line}
use Rattle.deadhead_matrix.specs.declared.entry.Entry.{Entry}
use Rattle.deadhead_matrix.specs.declared.pulls.Pull.{Pull}
use Rattle.deadhead_matrix.specs.Deadheads.{deadheads_of}
use Rattle.deadhead_matrix.specs.Depot.{pulls_of}
use Rattle.pair_rules.specs.Reading.{rules_of}
use Rattle.pair_rules.specs.Rules.{PairRule}
use Rattle.claim_files.proofs.EachRecord.{read-parts, same_Ok}
use Rattle.claim_files.proofs.FieldsBack.{then as and_then}
use Rattle.plan_choice.specs.Likings.{LikingsView}
use Rattle.desk_run.specs.Becomes.{with_writings}
use Rattle.desk_run.specs.Commands.{IsGiven}
use Rattle.desk_run.specs.Outcome.{OutcomeView, status_of}
use Rattle.desk_run.specs.Reading.{ReadView, found_of, pages_in}
use Rattle.desk_run.specs.declared.status.TheConstants.{EDITS_REFUSED}
use Rattle.desk_feed.specs.Feed.{FeedView, deadheads_in, feed_papers, kept_on, lines_by, lines_in, pulls_in, rules_in, said_by}
use Rattle.desk_feed.specs.Feed.{said_with, settings_in, timetable_in}
use Rattle.desk_feed.specs.Judging.{Does, refusing, said_in}
use Rattle.block_names.specs.Names.{NamingView}
use Rattle.feed_likings.specs.Likings.{likings_in}
use Rattle.feed_naming.specs.Commands.{DoesNamed}
use Rattle.feed_naming.specs.Naming.{naming_in}
use Rattle.write_command.specs.Write.{IsWritten, Writes, WritesBy, feed_files, files_of, stop_times_in, stop_times_name, stop_times_of}
use Rattle.write_command.specs.Write.{trips_table, trips_name, trips_of, write_asked, write_does}
use Rattle.two_runs.specs.Audited.{IsLaid}
use Rattle.two_runs.proofs.DeadheadsOver.{deadheads-over, slots-kept, with_slots}
use Rattle.two_runs.proofs.TwoFiles.{first-stands, is_name, others-stand, second-stands, with_two, with_two_told}

-- what is read of bytes that are not too many is a table
headed : (bytes : List ℕ) (header : List (List ℕ)) (rows : List (List (List ℕ))) (table : TableView) → records bytes ≡ header ∷ rows
    → length bytes ≤ MOST_BYTES
    → (body : Result (List (List (List ℕ))) TableFault) → body_of (length header) rows ≡ body → with_header header body ≡ Ok table
    → IsTable table
headed bytes header rows table split short (Ok body) is e =
    let same : record { header = header; rows = body } ≡ table = cc in
    let all = body-rows (length header) rows body is in
    subst IsTable same (record { width = all.0; count = omega (arith, all.1, length-records-le bytes, ap length split, short) })
headed bytes header rows table split short (Err refused) is e = absurd (cc)

pub is-table : (bytes : List ℕ) (table : TableView) → table_of bytes ≡ Ok table → length bytes ≤ MOST_BYTES → IsTable table
is-table bytes table e short = by (records bytes) refl e
  where
    by : (all : List (List (List ℕ))) → records bytes ≡ all → table_from all ≡ Ok table → IsTable table
    by [] split e = absurd (cc)
    by (header ∷ rows) split e = headed bytes header rows table split short (body_of (length header) rows) refl e

-- a paper that is a table is a file, of no more bytes than a file may have
pub record IsFileOf (found : Found) (table : TableView) : Type 0 where
  pub bytes : List ℕ
  pub is : found ≡ File bytes
  pub reads : table_of bytes ≡ Ok table

read-as : (paper : Paper) (table : TableView) (read : Result TableView TableFault) → or_refused paper read ≡ Ok table → read ≡ Ok table
read-as paper table (Ok read) e = ap Ok (same_Ok read table e)
read-as paper table (Err refused) e = absurd (cc)

pub file-of : (paper : Paper) (found : Found) (table : TableView) → table_in paper found ≡ Ok table → IsFileOf found table
file-of paper (File bytes) table e = record { bytes = bytes; is = refl; reads = read-as paper table (table_of bytes) e }
file-of paper Missing table e = absurd (cc)
file-of paper TooLong table e = absurd (cc)

pub found-fits : (stands : Option (List ℕ)) (bytes : List ℕ) → found_as MOST_BYTES stands ≡ File bytes → length bytes ≤ MOST_BYTES
found-fits None bytes e = absurd (cc)
found-fits (Some stands) bytes e = by (nat_le (length stands) MOST_BYTES) refl e
  where
    by : (fits : Bool) → nat_le (length stands) MOST_BYTES ≡ fits → (if fits then File stands else TooLong) ≡ File bytes
        → length bytes ≤ MOST_BYTES
    by true fits e = let same : stands ≡ bytes = cc in omega (arith, leb-true (length stands) MOST_BYTES fits, ap length same)
    by false fits e = absurd (cc)

-- the parts of what a feed says, between whose places its trips run as they were read
pub record HasParts (found : Paper → Found) (said : FeedView) : Type 0 where
  pub settings : SettingsView
  pub read : TimetableView
  pub more : TimetableView
  pub entries : List Entry
  pub pulls : List Pull
  pub rules : List PairRule
  pub lines : List Line
  pub settings_are : settings_in found ≡ Ok settings
  pub read_is : timetable_in found settings ≡ Ok read
  pub deadheads_are : deadheads_in found read ≡ Ok (with_slots read.slots more, entries)
  pub pulls_are : pulls_in found more ≡ Ok pulls
  pub rules_are : rules_in found ≡ Ok rules
  pub said_is : said ≡ said_with settings (with_slots read.slots more) entries pulls rules lines

pub has-parts : (found : Paper → Found) (said : FeedView) → said_by found ≡ Ok said → HasParts found said
unfolding said_by
has-parts found said e =
    let settings = read-parts (settings_in found) _ said e in
    let read = read-parts (timetable_in found settings.0) _ said settings.2 in
    let deadheads = read-parts (deadheads_in found read.0) _ said read.2 in
    let pulls = read-parts (pulls_in found deadheads.0.0) _ said deadheads.2 in
    let rules = read-parts (rules_in found) _ said pulls.2 in
    let lines = read-parts (lines_in found) _ said rules.2 in
    let kept = slots-kept (found paper.Deadheads) read.0 deadheads.0 deadheads.1 in
    record {
      settings = settings.0;
      read = read.0;
      more = deadheads.0.0;
      entries = deadheads.0.1;
      pulls = pulls.0;
      rules = rules.0;
      lines = lines.0;
      settings_are = settings.1;
      read_is = read.1;
      deadheads_are = deadheads.1 ∙ ap (λ t. Ok (t, deadheads.0.1)) kept;
      pulls_are = pulls.1;
      rules_are = rules.1;
      said_is = sym (same_Ok _ said lines.2) ∙ ap (λ t. said_with settings.0 t deadheads.0.1 pulls.0 rules.0 lines.0) kept;
    }

-- the papers beside the trips, the stop times and the script are found as before
pub record AreFoundAlike (one other : Paper → Found) : Type 0 where
  pub settings : one paper.Settings ≡ other paper.Settings
  pub terminals : one paper.Terminals ≡ other paper.Terminals
  pub tolerances : one paper.Tolerances ≡ other paper.Tolerances
  pub calendar : one paper.Calendar ≡ other paper.Calendar
  pub dates : one paper.CalendarDates ≡ other paper.CalendarDates
  pub deadheads : one paper.Deadheads ≡ other paper.Deadheads
  pub depot : one paper.Depot ≡ other paper.Depot
  pub pairs : one paper.Pairs ≡ other paper.Pairs

-- papers found so, with a timetable of other trips and without a script, say this
pub says-again : (one other : Paper → Found) (said : FeedView) → AreFoundAlike one other
    → (parts : HasParts other said) (again : TimetableView) → timetable_in one parts.settings ≡ Ok again
    → again ≡ with_slots again.slots parts.read → one paper.Edits ≡ Missing
    → said_by one ≡ Ok (said_with parts.settings (with_slots again.slots parts.more) parts.entries parts.pulls parts.rules [])
unfolding said_by
says-again one other said alike parts again read is no_script =
    and_then (settings_in one) parts.settings _ _
    ((λ i. settings_of (alike.settings i) (alike.terminals i) (alike.tolerances i) >>= λ s. kept_on (alike.calendar i) (alike.dates i) s
    s.date) ∙ parts.settings_are)
    (and_then (timetable_in one parts.settings) again _ _ read
    (and_then (deadheads_in one again) (with_slots again.slots parts.more, parts.entries) _ _
    ((λ i. deadheads_of (alike.deadheads i) (is i))
    ∙ deadheads-over again.slots (other paper.Deadheads) parts.read (with_slots parts.read.slots parts.more, parts.entries)
    parts.deadheads_are)
    (and_then (pulls_in one (with_slots again.slots parts.more)) parts.pulls _ _
    (ap (λ depot. pulls_of depot parts.more) alike.depot ∙ parts.pulls_are)
    (and_then (rules_in one) parts.rules _ _ (ap rules_of alike.pairs ∙ parts.rules_are)
    (and_then (lines_in one) [] _ _ (ap lines_by no_script) refl)))))

-- what a run of `write` has written that has done all, how it likes links, and how blocks are named
pub record HasWritten (said : FeedView) (trips stop_times : Result TableView FeedFault) (outcome : OutcomeView) : Type 0 where
  pub first : TableView
  pub second : TableView
  pub first_is : trips ≡ Ok first
  pub second_is : stop_times ≡ Ok second
  pub likings : LikingsView
  pub naming : NamingView
  pub written : IsWritten likings naming said first second outcome

refused-high : (outcome : OutcomeView) (refused : FeedFault) → status_of outcome.ending ≤ EDITS_REFUSED → outcome ≡ refusing refused → ⊥
refused-high outcome refused low done = omega (arith, low, ap (λ (o : OutcomeView). status_of o.ending) done)

has-written : (likings : LikingsView) (naming : NamingView) (said : FeedView) (trips stop_times : Result TableView FeedFault)
    (outcome : OutcomeView)
    → status_of outcome.ending ≤ EDITS_REFUSED → WritesBy likings naming said trips stop_times outcome
    → HasWritten said trips stop_times outcome
has-written likings naming said trips stop_times outcome low (inl bad) = absurd (refused-high outcome bad.refused low bad.done)
has-written likings naming said (Err due) stop_times outcome low (inr (inl none)) = absurd none
has-written likings naming said (Err due) stop_times outcome low (inr (inr none)) = absurd none
has-written likings naming said (Ok first) stop_times outcome low (inr (inl bad)) = absurd
    (refused-high outcome bad.1.refused low bad.1.done)
has-written likings naming said (Ok first) (Err due) outcome low (inr (inr does)) = absurd does.1
has-written likings naming said (Ok first) (Ok second) outcome low (inr (inr does)) =
    record { first = first; second = second; first_is = refl; second_is = refl; likings = likings; naming = naming; written = does.1.1 }

pub written-said : (read : ReadView) (outcome : OutcomeView) → IsGiven write_asked read outcome → status_of outcome.ending ≤ EDITS_REFUSED
    → (said : FeedView) × (said_in read ≡ Ok said) × HasWritten said (trips_table read) (stop_times_in read) outcome
unfolding write_asked
written-said read outcome given low = by (said_in read) refl given.gives
  where
    Found : Type 0
    Found = (said : FeedView) × (said_in read ≡ Ok said) × HasWritten said (trips_table read) (stop_times_in read) outcome

    named : (said : FeedView) → said_in read ≡ Ok said → (result : Result NamingView FeedFault)
        → DoesNamed (λ naming. Writes read naming said) result outcome → Found
    named said is (Ok naming) does = (
      said,
      is,
      has-written (likings_in read said.settings said.base) naming said (trips_table read) (stop_times_in read) outcome low does,
    )
    named said is (Err refused) does = absurd (refused-high outcome refused low does)

    by : (result : Result FeedView FeedFault) → said_in read ≡ result → Does (write_does.Gives read) result outcome → Found
    by (Ok said) is does = named said is (naming_in read said.settings) does
    by (Err refused) is does = absurd (refused-high outcome refused low does)

-- the files of a shelf with the two, and where the shelf tells them
abbrev pub with_both : Files → List ℕ → List ℕ → Files
with_both files trips stop_times = with_two trips_name trips stop_times_name stop_times files

abbrev pub with_texts : List ℕ → List ℕ → Option Files → Option Files
with_texts trips stop_times = with_two_told trips_name trips stop_times_name stop_times

pub written-files : (naming : NamingView) (said : FeedView) (first second : TableView) (blocks : List (List ℕ)) (shelf : ShelfState)
    → (with_writings (feed_files naming said first second blocks) shelf).files ≡ with_texts (trips_of naming said first blocks)
    (stop_times_of said second) shelf.files
unfolding files_of
written-files naming said first second blocks shelf = refl

module _ (files : Files) (trips stop_times : List ℕ) where
  kept : (name : List ℕ) → is_name name stop_times_name ≡ false → is_name name trips_name ≡ false
      → get (with_both files trips stop_times) name ≡ get files name
  kept = others-stand trips_name trips stop_times_name stop_times files

  pub trips-stand : get (with_both files trips stop_times) trips_name ≡ Some trips
  trips-stand = first-stands trips_name trips stop_times_name stop_times files refl refl

  pub stop_times-stand : get (with_both files trips stop_times) stop_times_name ≡ Some stop_times
  stop_times-stand = second-stands trips_name trips stop_times_name stop_times files refl

  pub laid-alike : (laid : Files) → IsLaid (with_both files trips stop_times) laid
      → AreFoundAlike (found_of (pages_in feed_papers laid)) (found_of (pages_in feed_papers files))
  laid-alike laid is = record {
    settings = ap (found_as MOST_BYTES) (is.others.0 ∙ kept (file_name_of paper.Settings) refl refl);
    terminals = ap (found_as MOST_BYTES) (is.others.1.0 ∙ kept (file_name_of paper.Terminals) refl refl);
    tolerances = ap (found_as MOST_BYTES) (is.others.1.1.0 ∙ kept (file_name_of paper.Tolerances) refl refl);
    calendar = ap (found_as MOST_BYTES) (is.others.1.1.1.0 ∙ kept (file_name_of paper.Calendar) refl refl);
    dates = ap (found_as MOST_BYTES) (is.others.1.1.1.1.0 ∙ kept (file_name_of paper.CalendarDates) refl refl);
    deadheads = ap (found_as MOST_BYTES) (is.others.1.1.1.1.1.0 ∙ kept (file_name_of paper.Deadheads) refl refl);
    depot = ap (found_as MOST_BYTES) (is.others.1.1.1.1.1.1.0 ∙ kept (file_name_of paper.Depot) refl refl);
    pairs = ap (found_as MOST_BYTES) (is.others.1.1.1.1.1.1.1.0 ∙ kept (file_name_of paper.Pairs) refl refl);
  }
