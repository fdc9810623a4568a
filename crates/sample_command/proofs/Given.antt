-- What `sample` gives of an accepted feed is what it asks.
use Rattle.std.proofs.Common.{◌≡◌, ℕ, List, [], Result, Ok, Err, ap, subst, ◌∙◌}
use Rattle.std.specs.Prelude.{IfOk}
use Rattle.deadhead_matrix.specs.Matrix.{MatrixView}
use Rattle.trip_model.specs.Timetable.{TimetableView}
use Rattle.desk_run.specs.Commands.{IsGiven}
use Rattle.desk_run.specs.Outcome.{OutcomeView}
use Rattle.desk_run.specs.Reading.{ReadView}
use Rattle.desk_feed.specs.declared.script.Edited.{Edited}
use Rattle.desk_feed.specs.Edited.{IsEdited, refusing_first}
use Rattle.desk_feed.specs.Feed.{FeedView}
use Rattle.desk_feed.specs.Judging.{Does, IsGivenOf, ending_of, of_feed, refused_of, said_in}
use Rattle.gtfs_tables.specs.declared.fault.FeedFault.{FeedFault}
use Rattle.block_names.specs.Names.{NamingView}
use Rattle.desk_feed.specs.Schedule.{IsMatrixFor}
use Rattle.sample_command.specs.Sample.{HasSummary, IsSummed, numbered_by, sample_asked, sample_read, summary_does, summary_line}
use Rattle.sample_command.specs.Summed.{IsSummedOf}

pub summary-given : {E : Type 0} (trips : ℕ) (read : ReadView) (said : FeedView) (edited : Edited) (matrix : MatrixView)
    → IsEdited said.base said.lines edited → IsMatrixFor said matrix
    → (result : Result OutcomeView E) (naming : NamingView) → naming ≡ numbered_by said.settings
    → IfOk result (IsSummedOf trips edited matrix naming) → IfOk result (IsGivenOf (summary_does trips) read said)
summary-given trips read said edited matrix is matrix_is (Err e) naming naming_is summed = tt
summary-given trips read said edited matrix is matrix_is (Ok outcome) naming naming_is summed =
    let here : outcome ≡ refusing_first (refused_of said) (summary_line trips summed.fixed summed.vehicles summed.minutes)
    (ending_of said) =
    summed.done ∙ (λ i. refusing_first (is.refused i) (summary_line trips summed.fixed summed.vehicles summed.minutes) (is.ending i)) in
    record {
      gives = record {
        matrix = matrix;
        matrix_is = matrix_is;
        fixed = summed.fixed;
        vehicles = summed.vehicles;
        minutes = summed.minutes;
        summary = subst (λ (t : TimetableView). HasSummary t matrix (numbered_by said.settings) summed.fixed summed.vehicles summed.minutes)
            is.timetable
            (subst (λ p. HasSummary edited.script.timetable matrix p summed.fixed summed.vehicles summed.minutes) naming_is summed.summary);
        done = here;
      };
      ends = ap (λ (o : OutcomeView). o.ending) here;
      unkept = λ _. ap (λ (o : OutcomeView). o.lines) here;
    }

-- and no file is written
pub sample-unwritten : (trips : ℕ) (sample : ReadView) (outcome : OutcomeView)
    → IsGiven (of_feed (summary_does trips)) sample outcome → outcome.writes ≡ []
sample-unwritten trips sample outcome given = by (said_in sample) given.gives
  where
    by : (said : Result FeedView FeedFault) → Does (IsSummed trips) said outcome → outcome.writes ≡ []
    by (Ok said) is = ap (λ (o : OutcomeView). o.writes) is.done
    by (Err refused) is = ap (λ (o : OutcomeView). o.writes) is

-- and of what was read of the sample is what is asked of a run, whatever that has read
pub sample-given : (trips : ℕ) (read sample : ReadView) → sample ≡ sample_read trips → (outcome : OutcomeView)
    → IsGiven (of_feed (summary_does trips)) sample outcome → IsGiven (sample_asked trips) read outcome
sample-given trips read sample is outcome given = record {
  gives = subst (λ (r : ReadView). (of_feed (summary_does trips)).Gives r outcome) is given.gives;
  ends = subst (λ (r : ReadView). (of_feed (summary_does trips)).Ends r outcome.ending) is given.ends;
  unkept = given.unkept;
}
