-- What `audit` asks, and what it puts of a feed and of the blocks that it states.
use Rattle.std.specs.Prelude.{◌≡◌, ◌≢◌, ◌⊎◌, ℕ, ◌+◌, ◌<◌, Bool, true, false, List, [], ◌∷◌, length, slice_index_or, Result, Ok, Err}
use Rattle.std.specs.Str.{IsUtf8}
use Rattle.gtfs_tables.specs.Reading.{table_in}
use Rattle.gtfs_tables.specs.Table.{TableView}
use Rattle.gtfs_tables.specs.declared.fault.FeedFault.{FeedFault}
use Rattle.gtfs_tables.specs.declared.fault.FeedFault.TheVariants as fault
use Rattle.gtfs_tables.specs.declared.paper.Column.TheVariants as column
use Rattle.gtfs_tables.specs.declared.paper.Paper.TheVariants as paper
use Rattle.desk_settings.specs.Selected.{chosen_in}
use Rattle.trip_model.specs.Blocking.{IsBlocking, IsLeast, empty_minutes}
use Rattle.trip_model.specs.Network.{Network}
use Rattle.trip_model.specs.Timetable.{TimetableView}
use Rattle.deadhead_matrix.specs.Matrix.{MatrixView}
use Rattle.assignment_model.specs.Prices.{Plan}
use Rattle.deadhead_matrix.specs.Fitting.{network_of}
use Rattle.block_audit.specs.declared.cost.Above.TheVariants.{Nothing}
use Rattle.block_audit.specs.declared.misfit.Misfit.{Misfit}
use Rattle.block_audit.specs.Laws.{Says, standing as standing_of}
use Rattle.block_audit.specs.Misfits.{misfits_in}
use Rattle.block_audit.specs.Stated.{AreNames, NamedBlock, block_field, slots_by, stated_in}
use Rattle.desk_run.specs.Commands.{Asked}
use Rattle.desk_run.specs.Outcome.{OutcomeView}
use Rattle.desk_run.specs.Reading.{ReadView, found_of}
use Rattle.desk_run.specs.declared.status.Ending.{Ending}
use Rattle.desk_run.specs.declared.status.Ending.TheVariants as ending
use Rattle.desk_feed.specs.Edited.{refusing_first}
use Rattle.desk_feed.specs.Feed.{FeedView, standing}
use Rattle.desk_feed.specs.Judging.{FeedAsked, ending_of, of_feed, refused_of, refusing}
use Rattle.deadhead_matrix.specs.Plans.{IsScheduled}
use Rattle.desk_feed.specs.Schedule.{IsMatrixFor, most_steps}
use Rattle.audit_command.specs.Lines.{costs_text, misfits_text}

-- the table of the trips, or why it is none; an accepted feed has one
abbrev pub trips_table : ReadView → Result TableView FeedFault
trips_table read = table_in paper.Trips (found_of read.pages paper.Trips)

-- a record, counted from 0, is the first selected one whose `block_id` is not text
pub record IsFirstBad (trips : TableView) (chosen : List Bool) (r : ℕ) : Type 0 where
  pub within : r < length trips.rows
  pub selected : slice_index_or chosen r false ≡ true
  pub bad : ¬ IsUtf8 (block_field trips r)
  pub before : (k : ℕ) → k < r → slice_index_or chosen k false ≡ true → IsUtf8 (block_field trips k)

-- the refusal of its `block_id` is put
pub record IsRefusedName (trips : TableView) (chosen : List Bool) (outcome : OutcomeView) : Type 0 where
  pub record_before : ℕ
  pub first : IsFirstBad trips chosen record_before
  pub done : outcome ≡ refusing (fault.NotUtf8 paper.Trips (record_before + 1) column.BlockId)

-- the text of the cost of stated blocks and of least ones
abbrev pub text_of_costs : Network → List (List ℕ) → List (List ℕ) → List ℕ
text_of_costs network stated least = costs_text (length stated) (empty_minutes network stated) (length least) (empty_minutes network least)

-- What is put of stated blocks without a misfit, behind the lines of refused records. It is their cost beside that of the
-- blocks of a certified plan, which are least over all blockings. `least` is put exactly where the stated blocks are least.
-- Else it is put how many vehicles they have more, or with as few vehicles how many empty minutes.
pub record IsCosted (refused : List ℕ) (end : Ending) (timetable : TimetableView) (matrix : MatrixView) (stated : List NamedBlock)
    (outcome : OutcomeView) : Type 0 where
  pub plan : Plan
  pub least : List (List ℕ)
  pub scheduled : IsScheduled timetable matrix plan least
  pub done : outcome ≡ refusing_first refused (text_of_costs (network_of timetable matrix) (slots_by stated) least) end
  pub says : Says (network_of timetable matrix) (slots_by stated) least (standing_of (network_of timetable matrix) (slots_by stated) least)
  pub nothing : IsLeast (network_of timetable matrix) (slots_by stated)
      → standing_of (network_of timetable matrix) (slots_by stated) least ≡ Nothing

-- what is put of stated blocks: their misfits, and that they are no blocking; or where there is none their cost
abbrev pub JudgesStated : List ℕ → Ending → TimetableView → MatrixView → List NamedBlock → List Misfit → OutcomeView → Type 0
JudgesStated refused end timetable matrix stated [] outcome = IsCosted refused end timetable matrix stated outcome
JudgesStated refused end timetable matrix stated (misfit ∷ misfits) outcome =
    outcome ≡ refusing_first refused (misfits_text timetable stated (misfit ∷ misfits)) ending.No

-- the blocks that a feed states of the timetable after its script
abbrev pub stated_of : FeedView → TableView → List NamedBlock
stated_of said trips = stated_in trips (standing said) (chosen_in said.settings trips)

-- The stated blocks are judged, by a matrix of the feed. The run ends as no exactly where they are not a blocking.
pub record IsAudited (said : FeedView) (trips : TableView) (outcome : OutcomeView) : Type 0 where
  pub matrix : MatrixView
  pub matrix_is : IsMatrixFor said matrix
  pub judged : JudgesStated (refused_of said) (ending_of said) (standing said) matrix (stated_of said trips)
      (misfits_in (standing said) matrix (stated_of said trips)) outcome
  pub no : outcome.ending ≡ ending.No → ¬ IsBlocking (network_of (standing said) matrix) (slots_by (stated_of said trips))
  pub blocking : outcome.ending ≢ ending.No → IsBlocking (network_of (standing said) matrix) (slots_by (stated_of said trips))

-- what is done of the trips: they are audited where the `block_id` of each selected record is text. Else the first that is not
-- text is refused
abbrev pub AuditsOf : FeedView → TableView → OutcomeView → Type 0
AuditsOf said trips outcome =
    IsRefusedName trips (chosen_in said.settings trips) outcome
    ⊎ (AreNames trips (chosen_in said.settings trips) × IsAudited said trips outcome)

abbrev pub AuditsBy : FeedView → Result TableView FeedFault → OutcomeView → Type 0
AuditsBy said (Err refused) outcome = outcome ≡ refusing refused
AuditsBy said (Ok trips) outcome = AuditsOf said trips outcome

abbrev pub Audits : ReadView → FeedView → OutcomeView → Type 0
Audits read said outcome = AuditsBy said (trips_table read) outcome

-- how a run ends by the misfits: as the script does where there is none, and else as no
abbrev pub ending_with_misfits : List Misfit → Ending → Ending
ending_with_misfits [] end = end
ending_with_misfits (misfit ∷ misfits) end = ending.No

-- how the run ends: by the misfits, which every matrix of the feed gives alike, and as refused where a `block_id` is
pub record EndsOf (said : FeedView) (trips : TableView) (end : Ending) : Type 0 where
  pub judged : AreNames trips (chosen_in said.settings trips) → (matrix : MatrixView) → IsMatrixFor said matrix
      → end ≡ ending_with_misfits (misfits_in (standing said) matrix (stated_of said trips)) (ending_of said)
  pub refused : ¬ AreNames trips (chosen_in said.settings trips) → end ≡ ending.FeedRefused

abbrev pub AuditEndsBy : FeedView → Result TableView FeedFault → Ending → Type 0
AuditEndsBy said (Err refused) end = end ≡ ending.FeedRefused
AuditEndsBy said (Ok trips) end = EndsOf said trips end

abbrev pub Ends : ReadView → FeedView → Ending → Type 0
Ends read said end = AuditEndsBy said (trips_table read) end

-- with the most steps of a plan from scratch
abbrev pub audit_does : FeedAsked
audit_does = record {
  further = [];
  keeps = false;
  Ends = Ends;
  Gives = Audits;
  most = λ read said. most_steps (length (standing said).slots);
}

-- what `audit` asks of a run
unfoldable pub audit_asked : Asked
audit_asked = of_feed audit_does
