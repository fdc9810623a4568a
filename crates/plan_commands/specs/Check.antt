-- What `check` asks, and what it puts of a feed and of the two files of a claim.
use Rattle.std.specs.Prelude.{◌≡◌, ℕ, false, ◌∷◌, [], List, ◌++◌, length, None, codes, Result, Ok, Err}
use Rattle.std.specs.Fmt.{decimal}
use Rattle.gtfs_tables.specs.declared.paper.Paper.{Paper}
use Rattle.gtfs_tables.specs.declared.paper.Paper.TheVariants as paper
use Rattle.trip_model.specs.Blocking.{IsLeast}
use Rattle.trip_model.specs.Timetable.{TimetableView}
use Rattle.deadhead_matrix.specs.Matrix.{MatrixView}
use Rattle.deadhead_matrix.specs.Fitting.{network_of}
use Rattle.price_check.specs.declared.verdict.Verdict.{Verdict}
use Rattle.price_check.specs.declared.verdict.Verdict.TheVariants.{Yes, No}
use Rattle.price_check.specs.Certificate.{IsCertificate}
use Rattle.price_check.specs.Claim.{ClaimedView, blocks_in}
use Rattle.price_check.specs.Reasons.{reason_of, verdict_of}
use Rattle.claim_files.specs.declared.fault.ClaimFault.{ClaimFault}
use Rattle.claim_files.specs.Claims.{claimed_of}
use Rattle.claim_files.specs.Lines.{claim_line_of, reason_line_of}
use Rattle.desk_run.specs.Commands.{Asked}
use Rattle.desk_run.specs.Outcome.{OutcomeView}
use Rattle.desk_run.specs.Reading.{ReadView, found_of}
use Rattle.desk_run.specs.declared.status.Ending.{Ending}
use Rattle.desk_run.specs.declared.status.Ending.TheVariants as ending
use Rattle.desk_feed.specs.Edited.{refusing_first}
use Rattle.desk_feed.specs.Feed.{FeedView, feed_papers, standing}
use Rattle.desk_feed.specs.Judging.{FeedAsked, of_feed, refused_of}
use Rattle.desk_feed.specs.Schedule.{IsMatrixFor}

-- the line of a yes, with the vehicles and the empty minutes of the blocks
abbrev pub yes_line : ℕ → ℕ → List ℕ
yes_line vehicles minutes = codes "yes, vehicles " ++ (decimal vehicles ++ (codes ", minutes " ++ (decimal minutes ++ 10 ∷ [])))

-- what is put of a verdict, behind the lines of refused records
abbrev pub verdict_outcome : List ℕ → TimetableView → ClaimedView → Verdict → OutcomeView
verdict_outcome refused timetable claimed (Yes vehicles minutes) = refusing_first refused (yes_line vehicles minutes) ending.Done
verdict_outcome refused timetable claimed (No reason) = refusing_first refused (reason_line_of timetable claimed reason) ending.No

-- what is put of a claim, or of files that are none
abbrev pub claim_outcome : List ℕ → TimetableView → MatrixView → Result ClaimedView ClaimFault → OutcomeView
claim_outcome refused timetable matrix (Err fault) = refusing_first refused (claim_line_of fault) ending.No
claim_outcome refused timetable matrix (Ok claimed) = verdict_outcome refused timetable claimed (verdict_of timetable matrix claimed)

-- what the two files claim of what a feed says
abbrev pub claim_in : ReadView → FeedView → Result ClaimedView ClaimFault
claim_in read said = claimed_of (standing said) (found_of read.pages paper.Blocks) (found_of read.pages paper.Prices)

-- what is put of them, by a matrix
abbrev pub checked : ReadView → FeedView → MatrixView → OutcomeView
checked read said matrix = claim_outcome (refused_of said) (standing said) matrix (claim_in read said)

-- No reason holds against a claim exactly where it is a certificate. Then it proves its blocks: they are least over all blockings.
abbrev pub Proves : TimetableView → MatrixView → Result ClaimedView ClaimFault → Type 0
Proves timetable matrix read = (claimed : ClaimedView) → read ≡ Ok claimed
    → (reason_of timetable matrix claimed ≡ None
    → IsCertificate (network_of timetable matrix) (length timetable.slots) claimed
    × IsLeast (network_of timetable matrix) (blocks_in claimed.blocks))
    × (IsCertificate (network_of timetable matrix) (length timetable.slots) claimed → reason_of timetable matrix claimed ≡ None)

-- The verdict by a matrix of the feed is put. It is yes exactly of a certificate, which proves the blocks.
pub record IsChecked (read : ReadView) (said : FeedView) (outcome : OutcomeView) : Type 0 where
  pub matrix : MatrixView
  pub matrix_is : IsMatrixFor said matrix
  pub done : outcome ≡ checked read said matrix
  pub proved : Proves (standing said) matrix (claim_in read said)

-- how the run ends: by every matrix of the feed in the same way
abbrev pub EndsAs : ReadView → FeedView → Ending → Type 0
EndsAs read said end = (matrix : MatrixView) → IsMatrixFor said matrix → end ≡ (checked read said matrix).ending

-- the two files of a claim, which are read after the papers of a feed
abbrev pub own_papers : List Paper
own_papers = paper.Blocks ∷ paper.Prices ∷ []

abbrev pub claim_papers : List Paper
claim_papers = feed_papers ++ own_papers

abbrev pub check_does : FeedAsked
check_does = record { further = own_papers; keeps = false; Ends = EndsAs; Gives = IsChecked; most = λ read said. 0 }

unfoldable pub check_asked : Asked
check_asked = of_feed check_does
