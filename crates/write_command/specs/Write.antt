-- What `write` asks, and what it writes of a feed.
use Rattle.std.specs.Prelude.{◌≡◌, ◌⊎◌, ℕ, List, [], ◌∷◌, ◌++◌, length, None, Result, Ok, Err, codes, if◌then◌else◌}
use Rattle.csv.specs.Reading.{strip_bom}
use Rattle.desk_io.specs.declared.shelf.Found.TheVariants.{File}
use Rattle.gtfs_tables.specs.Reading.{table_in}
use Rattle.gtfs_tables.specs.Table.{TableView, IsTable, table_of}
use Rattle.gtfs_tables.specs.declared.fault.FeedFault.{FeedFault}
use Rattle.gtfs_tables.specs.declared.paper.Column.{Column}
use Rattle.gtfs_tables.specs.declared.paper.Column.TheVariants as column
use Rattle.gtfs_tables.specs.declared.paper.Paper.{Paper}
use Rattle.gtfs_tables.specs.declared.paper.Paper.TheVariants as paper
use Rattle.desk_settings.specs.Selected.{chosen_in}
use Rattle.desk_settings.specs.Settings.{SettingsView, is_classed}
use Rattle.trip_model.specs.Timetable.{TimetableView}
use Rattle.feed_read.specs.Base.{base_of}
use Rattle.deadhead_matrix.specs.Matrix.{MatrixView}
use Rattle.assignment_model.specs.Prices.{Plan}
use Rattle.plan_choice.specs.Likings.{LikingsView}
use Rattle.block_build.specs.Names.{AreBlockNames}
use Rattle.block_names.specs.Names.{NamingView, names_of}
use Rattle.block_writer.specs.StopTimes.{stop_time_columns, stop_times_written}
use Rattle.block_writer.specs.Texts.{AreTexts, IsRefusedPaper, IsTextPaper}
use Rattle.block_writer.specs.Trips.{trips_written}
use Rattle.written_laws.specs.Written.{AreWritable, as_written}
use Rattle.desk_run.specs.Commands.{Asked}
use Rattle.desk_run.specs.Outcome.{OutcomeView}
use Rattle.desk_run.specs.Reading.{ReadView, found_of}
use Rattle.desk_run.specs.declared.outcome.Writing.{Writing}
use Rattle.desk_run.specs.declared.status.Ending.{Ending}
use Rattle.desk_run.specs.declared.status.Ending.TheVariants as ending
use Rattle.desk_feed.specs.Feed.{FeedView, standing}
use Rattle.desk_feed.specs.Judging.{FeedAsked, ending_of, of_feed, refused_of, refusing}
use Rattle.desk_feed.specs.Schedule.{IsMatrixFor}
use Rattle.feed_likings.specs.Likings.{likings_in}
use Rattle.feed_naming.specs.Commands.{NamingAsked, of_naming}
use Rattle.feed_desk.specs.Drawn.{IsDrawn}
use Rattle.feed_desk.specs.Plans.{most_steps_of}

-- the tables of the two papers, or why one is none; an accepted feed has both
abbrev pub trips_table : ReadView → Result TableView FeedFault
trips_table read = table_in paper.Trips (found_of read.pages paper.Trips)

abbrev pub stop_times_in : ReadView → Result TableView FeedFault
stop_times_in read = table_in paper.StopTimes (found_of read.pages paper.StopTimes)

-- the columns that are known by their names; that of routes is where vehicles are of classes
abbrev pub trip_columns : SettingsView → List Column
trip_columns settings =
    if is_classed settings then column.ServiceId ∷ column.TripId ∷ column.BlockId ∷ column.RouteId ∷ []
    else column.ServiceId ∷ column.TripId ∷ column.BlockId ∷ []

-- the names of the two files, and the line that is put
abbrev pub trips_name : List ℕ
trips_name = codes "trips_blocks.txt"

abbrev pub stop_times_name : List ℕ
stop_times_name = codes "stop_times_blocks.txt"

abbrev pub written_line : List ℕ
written_line = codes "wrote trips_blocks.txt, stop_times_blocks.txt" ++ 10 ∷ []

-- the two files of blocks for a timetable, in the order in which they are written, with the text of the stop times
unfoldable pub files_of : SettingsView → TimetableView → List (List ℕ) → List (List ℕ) → TableView → List ℕ → List Writing
files_of settings timetable blocks names trips stop_times =
    record { name = trips_name; bytes = trips_written trips timetable (chosen_in settings trips) blocks names }
    ∷ record { name = stop_times_name; bytes = stop_times }
    ∷ []

-- those of a feed and of blocks for its timetable after the script, of whose slots those before the script have records
abbrev pub feed_files : NamingView → FeedView → TableView → TableView → List (List ℕ) → List Writing
feed_files naming said trips stop_times blocks =
    files_of said.settings (standing said) blocks (names_of naming blocks) trips
    (stop_times_written stop_times (standing said) (length said.base.slots))

-- the texts of the two files of a feed and of blocks
abbrev pub trips_of : NamingView → FeedView → TableView → List (List ℕ) → List ℕ
trips_of naming said trips blocks =
    trips_written trips (standing said) (chosen_in said.settings trips) blocks (names_of naming blocks)

abbrev pub stop_times_of : FeedView → TableView → List ℕ
stop_times_of said stop_times = stop_times_written stop_times (standing said) (length said.base.slots)

-- two files are read as these tables, and as a timetable with the trips of a feed
pub record AreReadAs (said : FeedView) (trips_bytes stop_times_bytes : List ℕ) (trips stop_times : TableView)
    (base : TimetableView) : Type 0 where
  pub trips_are : table_of trips_bytes ≡ Ok trips
  pub stop_times_are : table_of stop_times_bytes ≡ Ok stop_times
  pub trips_table : IsTable trips
  pub stop_times_table : IsTable stop_times
  pub read : base_of said.settings (File trips_bytes) (File stop_times_bytes) ≡ Ok base
  pub slots : base.slots ≡ said.base.slots

-- The two written files, read again in the place of these, have the same timetable. Each trip that runs is at its minutes after
-- the script. Neither file may begin with a byte-order mark, and no time may be moved to 100:00:00 or later.
abbrev pub AreReadAgain : NamingView → FeedView → TableView → TableView → List (List ℕ) → Type 0
AreReadAgain naming said trips stop_times blocks =
    (trips_bytes stop_times_bytes : List ℕ) (base : TimetableView) → AreReadAs said trips_bytes stop_times_bytes trips stop_times base
    → AreWritable stop_times (standing said) (length said.base.slots)
    → strip_bom (trips_of naming said trips blocks) ≡ trips_of naming said trips blocks
    → strip_bom (stop_times_of said stop_times) ≡ stop_times_of said stop_times
    → base_of said.settings (File (trips_of naming said trips blocks))
    (File (stop_times_of said stop_times)) ≡ Ok (as_written base (standing said))

-- The files are those of the blocks of the plan after the script, which can be told apart by their names. They are read again as
-- the feed. The lines of refused records are put, and then that the files were written.
pub record IsWritten (likings : LikingsView) (naming : NamingView) (said : FeedView) (trips stop_times : TableView) (outcome : OutcomeView) : Type 0 where
  pub matrix : MatrixView
  pub matrix_is : IsMatrixFor said matrix
  pub plan : Plan
  pub blocks : List (List ℕ)
  pub drawn : IsDrawn said.base said.lines matrix likings plan blocks
  pub named : AreBlockNames (length blocks) (names_of naming blocks)
  pub again : AreReadAgain naming said trips stop_times blocks
  pub done : outcome ≡ record {
    writes = feed_files naming said trips stop_times blocks;
    lines = None;
    text = refused_of said ++ written_line;
    ending = ending_of said;
  }

-- the refusal of a paper is put
pub record IsRefusal (paper : Paper) (columns : List Column) (read : Result TableView FeedFault) (outcome : OutcomeView) : Type 0 where
  pub refused : FeedFault
  pub for : IsRefusedPaper paper columns read refused
  pub done : outcome ≡ refusing refused

-- what is done of two papers: the feed is written where both are tables of texts. Else the first refusal is put, that of the
-- trips before that of the stop times
abbrev pub WritesBy : LikingsView → NamingView → FeedView → Result TableView FeedFault → Result TableView FeedFault → OutcomeView → Type 0
WritesBy likings naming said trips stop_times outcome =
    IsRefusal paper.Trips (trip_columns said.settings) trips outcome
    ⊎ (IsTextPaper (λ first. IsRefusal paper.StopTimes stop_time_columns stop_times outcome) trips
    ⊎ IsTextPaper (λ first. IsTextPaper (λ second. IsWritten likings naming said first second outcome) stop_times) trips)

abbrev pub Writes : ReadView → NamingView → FeedView → OutcomeView → Type 0
Writes read naming said outcome =
    WritesBy (likings_in read said.settings said.base) naming said (trips_table read) (stop_times_in read) outcome

-- how the run ends: as the script does where all fields of both are texts, and else as refused
pub record EndsOf (said : FeedView) (trips stop_times : TableView) (end : Ending) : Type 0 where
  pub texts : AreTexts trips → AreTexts stop_times → end ≡ ending_of said
  pub trips_refused : ¬ AreTexts trips → end ≡ ending.FeedRefused
  pub stop_times_refused : ¬ AreTexts stop_times → end ≡ ending.FeedRefused

abbrev pub EndsBy : FeedView → Result TableView FeedFault → Result TableView FeedFault → Ending → Type 0
EndsBy said (Err refused) stop_times end = end ≡ ending.FeedRefused
EndsBy said (Ok trips) (Err refused) end = end ≡ ending.FeedRefused
EndsBy said (Ok trips) (Ok stop_times) end = EndsOf said trips stop_times end

abbrev pub Ends : ReadView → FeedView → Ending → Type 0
Ends read said end = EndsBy said (trips_table read) (stop_times_in read) end

-- with the most steps of the plans of its script
abbrev pub write_named : NamingAsked
write_named = record { further = []; Ends = λ read naming. Ends read; Gives = Writes; most = λ read. most_steps_of }

-- and of any feed
abbrev pub write_does : FeedAsked
write_does = of_naming write_named

-- what `write` asks of a run
unfoldable pub write_asked : Asked
write_asked = of_feed write_does
