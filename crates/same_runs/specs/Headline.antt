-- What a run of `blocks` does that comes to its end, in one record.
use Rattle.std.specs.Prelude.{◌≡◌, ℕ, suc, ◌<◌, ◌≤◌, List, ◌++◌, length, None, Ok, IsSome, codes}
use Rattle.std.specs.Fmt.{decimal}
use Rattle.desk_io.specs.declared.shelf.Found.{Found}
use Rattle.gtfs_tables.specs.Reading.{table_in}
use Rattle.gtfs_tables.specs.declared.paper.Paper.{Paper}
use Rattle.gtfs_tables.specs.declared.paper.Paper.TheVariants as paper
use Rattle.trip_model.specs.Blocking.{IsFewest, IsLeast, empty_minutes}
use Rattle.trip_model.specs.Network.{Network}
use Rattle.trip_model.specs.Plain.{plain_network, trip_moves}
use Rattle.trip_model.specs.Timetable.{TimetableView}
use Rattle.assignment_model.specs.Choice.{IsChosen}
use Rattle.assignment_model.specs.Prices.{Plan}
use Rattle.deadhead_matrix.specs.Fitting.{network_of}
use Rattle.deadhead_matrix.specs.Matrix.{MatrixView}
use Rattle.claim_files.specs.Written.{IsAccepted}
use Rattle.desk_core.specs.Computed.{likes}
use Rattle.desk_core.specs.Counts.{blocks_in}
use Rattle.desk_feed.specs.Feed.{FeedView, said_by}
use Rattle.desk_feed.specs.Numbers.{numbers_line}
use Rattle.desk_feed.specs.Schedule.{IsMatrixFor}
use Rattle.desk_feed.specs.Script.{refusal_in, standing_at, state_at, step_at}
use Rattle.desk_run.specs.Outcome.{OutcomeView}
use Rattle.feed_likings.specs.Likings.{likings_by}
use Rattle.block_names.specs.Names.{NamingView, names_of}
use Rattle.feed_naming.specs.Naming.{naming_by}
use Rattle.feed_desk.specs.Plans.{fixed_number}
use Rattle.blocks_command.specs.Blocks.{plan_files}

-- a text is a part of another
pub record IsPartOf (part text : List ℕ) : Type 0 where
  pub front : List ℕ
  pub back : List ℕ
  pub is : text ≡ front ++ (part ++ back)

-- after so many records: the timetable that stands, and which trips fit then
abbrev pub timetable_after : FeedView → ℕ → TimetableView
timetable_after said m = standing_at said.base said.lines m

abbrev pub network_after : FeedView → MatrixView → ℕ → Network
network_after said matrix m = network_of (timetable_after said m) matrix

-- the blocks of a plan then
abbrev pub blocks_after : FeedView → (ℕ → Plan) → ℕ → List (List ℕ)
blocks_after said plan m = blocks_in (timetable_after said m) (plan m)

-- the line of three numbers of what stands then. The first is the sum of the maxima of the deficits
abbrev pub numbers_after : FeedView → MatrixView → (ℕ → Plan) → ℕ → List ℕ
numbers_after said matrix plan m =
    numbers_line (fixed_number (timetable_after said m)) (length (blocks_after said plan m))
    (empty_minutes (network_after said matrix m) (blocks_after said plan m))

-- what is put of an accepted record: its number, and the three numbers of what stands after it
abbrev pub line_after : FeedView → MatrixView → (ℕ → Plan) → ℕ → List ℕ
line_after said matrix plan m = codes "record " ++ (decimal m ++ (codes ": ok, " ++ numbers_after said matrix plan m))

-- how it is liked that one trip of a feed is next after another, by its settings and its trips
abbrev pub likes_by : (Paper → Found) → FeedView → MatrixView → ℕ → ℕ → ℕ
likes_by found said matrix =
    likes said.base matrix (likings_by said.settings said.base (table_in paper.Trips (found paper.Trips)))

-- What was found of each paper, and what is done. The feed is accepted, and its blocks are named in one way. A moment m is after so
-- many records of its script, and has one plan.
pub record Headline (found : Paper → Found) (outcome : OutcomeView) : Type 0 where
  pub said : FeedView
  pub accepted : said_by found ≡ Ok said
  pub naming : NamingView
  pub named : naming_by said.settings (table_in paper.Trips (found paper.Trips)) ≡ Ok naming
  pub matrix : MatrixView
  pub walks : IsMatrixFor said matrix
  pub plan : ℕ → Plan
  -- the three numbers are put of each accepted record
  pub put : (n : ℕ) → n < length said.lines → refusal_in (step_at said.base said.lines n) ≡ None
      → IsPartOf (line_after said matrix plan (suc n)) outcome.text
  -- and last those of the plan after all records
  pub last : (front : List ℕ) × (outcome.text ≡ front ++ numbers_after said matrix plan (length said.lines))
  -- no blocking without deadheads has fewer vehicles than the first number, whatever the rules of pairs
  pub without : (m : ℕ) → m ≤ length said.lines → (plain : List (List ℕ))
      × IsFewest (plain_network (trip_moves (timetable_after said m).slots)) plain
      × (length plain ≡ fixed_number (timetable_after said m))
  -- no blocking has fewer vehicles than the plan, and none with as many has fewer empty minutes
  pub least : (m : ℕ) → m ≤ length said.lines → IsLeast (network_after said matrix m) (blocks_after said plan m)
  -- and before the script no least blocking is liked more
  pub chosen : IsChosen (network_of said.base matrix) (likes_by found said matrix) (blocks_in said.base (plan 0))
  -- the files are those of the last plan, and say what the verdict of `check` is yes on
  pub written : let m = length said.lines in
      outcome.writes ≡ plan_files (timetable_after said m) matrix naming (plan m)
  pub claimed : let m = length said.lines in IsAccepted (timetable_after said m) matrix (names_of naming (blocks_after said plan m))
      (blocks_after said plan m) (plan m).leave (plan m).enter
  -- where the same edits stand, timetable and plan are equal
  pub undone : (m k : ℕ) → m ≤ length said.lines → k ≤ length said.lines
      → (state_at said.base said.lines m).standing ≡ (state_at said.base said.lines k).standing
      → (timetable_after said m ≡ timetable_after said k) × (plan m ≡ plan k)
  -- a refused record changes neither
  pub refused : (n : ℕ) → n < length said.lines → IsSome (refusal_in (step_at said.base said.lines n))
      → (timetable_after said (suc n) ≡ timetable_after said n) × (plan (suc n) ≡ plan n)
