-- What `sample` asks, and the line that it puts.
use Rattle.std.specs.Prelude.{◌≡◌, ℕ, false, List, [], ◌∷◌, ◌++◌, length, pos, codes}
use Rattle.std.specs.Fmt.{decimal}
use Rattle.desk_settings.specs.Settings.{SettingsView}
use Rattle.trip_model.specs.Blocking.{empty_minutes}
use Rattle.trip_model.specs.Fleet.{deficit_sum}
use Rattle.trip_model.specs.Timetable.{TimetableView}
use Rattle.deadhead_matrix.specs.Matrix.{MatrixView}
use Rattle.assignment_model.specs.Prices.{Plan}
use Rattle.deadhead_matrix.specs.Fitting.{network_of}
use Rattle.block_names.specs.Names.{NamingView, names_of}
use Rattle.claim_files.specs.Written.{IsAccepted}
use Rattle.desk_run.specs.Commands.{Asked}
use Rattle.desk_run.specs.Outcome.{OutcomeView}
use Rattle.desk_run.specs.Reading.{ReadView, pages_in}
use Rattle.desk_run.specs.declared.reading.Loaded.TheVariants as loaded
use Rattle.desk_feed.specs.Edited.{refusing_first}
use Rattle.desk_feed.specs.Feed.{FeedView, feed_papers, standing}
use Rattle.desk_feed.specs.Judging.{FeedAsked, doing, ending_of, of_feed, refused_of}
use Rattle.deadhead_matrix.specs.Plans.{IsScheduled}
use Rattle.desk_feed.specs.Schedule.{IsMatrixFor, most_steps}
use Rattle.feed_sample.specs.Sample.{sample_files}

-- rule: the line of a sample
-- the summary of a sample of so many trips: the fewest vehicles without deadheads, and the vehicles and the empty minutes of a plan
unfoldable pub summary_line : ℕ → ℕ → ℕ → ℕ → List ℕ
summary_line trips fixed vehicles minutes =
    codes "sample " ++ (decimal trips
    ++ (codes ": fixed " ++ (decimal fixed
    ++ (codes ", vehicles " ++ (decimal vehicles ++ (codes ", minutes " ++ (decimal minutes ++ (codes ", check yes" ++ 10 ∷ []))))))))

-- the blocks of a sample are named by numbers, since its trips state none
abbrev pub numbered_by : SettingsView → NamingView
numbered_by settings = record { prefix = settings.prefix; stated = [] }

-- The three numbers of a timetable: the sum of the maxima of its deficits, and the vehicles and the empty minutes of a plan.
-- The plan is certified, so its blocks are least over all blockings. `check` says yes to its two files.
pub record HasSummary (timetable : TimetableView) (matrix : MatrixView) (naming : NamingView) (fixed vehicles minutes : ℕ) : Type 0 where
  pub plan : Plan
  pub blocks : List (List ℕ)
  pub scheduled : IsScheduled timetable matrix plan blocks
  pub accepted : IsAccepted timetable matrix (names_of naming blocks) blocks plan.leave plan.enter
  pub fixed_is : pos fixed ≡ deficit_sum timetable
  pub vehicles_is : vehicles ≡ length blocks
  pub minutes_is : minutes ≡ empty_minutes (network_of timetable matrix) blocks

-- the outcome of an accepted sample: the lines of the refused records of its script, and the summary after it
pub record IsSummed (trips : ℕ) (said : FeedView) (outcome : OutcomeView) : Type 0 where
  pub matrix : MatrixView
  pub matrix_is : IsMatrixFor said matrix
  pub fixed : ℕ
  pub vehicles : ℕ
  pub minutes : ℕ
  pub summary : HasSummary (standing said) matrix (numbered_by said.settings) fixed vehicles minutes
  pub done : outcome ≡ refusing_first (refused_of said) (summary_line trips fixed vehicles minutes) (ending_of said)

-- the most steps: those of a plan from scratch
abbrev pub most_of : FeedView → ℕ
most_of said = most_steps (length (standing said).slots)

-- what is asked of the feed
abbrev pub summary_does : ℕ → FeedAsked
summary_does trips = doing (IsSummed trips) most_of

-- the files of the sample, as they are read
abbrev pub sample_read : ℕ → ReadView
sample_read trips = record { pages = pages_in feed_papers (sample_files trips); journal = loaded.Unasked }

-- what is asked of a run: nothing is read, and the outcome is that of the files of the sample
abbrev pub sample_asked : ℕ → Asked
sample_asked trips = record {
  papers = [];
  keeps = false;
  Ends = λ read. (of_feed (summary_does trips)).Ends (sample_read trips);
  Gives = λ read. (of_feed (summary_does trips)).Gives (sample_read trips);
  most = λ read. (of_feed (summary_does trips)).most (sample_read trips);
}
