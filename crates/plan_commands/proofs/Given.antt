-- What `check` gives of an accepted feed is what it asks.
use Rattle.std.proofs.Common.{◌≡◌, ℕ, List, [], length, None, Result, Ok, Err, refl, ap, subst, ◌∙◌}
use Rattle.std.specs.Prelude.{IfOk}
use Rattle.deadhead_matrix.specs.Matrix.{MatrixView}
use Rattle.price_check.specs.declared.verdict.Verdict.{Verdict}
use Rattle.price_check.specs.declared.verdict.Verdict.TheVariants.{Yes, No}
use Rattle.price_check.specs.Claim.{ClaimedView}
use Rattle.price_check.specs.Reasons.{verdict_of}
use Rattle.trip_model.specs.Timetable.{TimetableView}
use Rattle.claim_files.specs.declared.fault.ClaimFault.{ClaimFault}
use Rattle.desk_run.specs.Outcome.{OutcomeView}
use Rattle.desk_run.specs.Reading.{ReadView}
use Rattle.desk_feed.specs.Feed.{FeedView, standing}
use Rattle.desk_feed.specs.Judging.{IsGivenOf, refused_of}
use Rattle.desk_feed.specs.Schedule.{IsMatrixFor}
use Rattle.plan_commands.specs.Check.{Proves, check_does, checked, claim_in, claim_outcome, verdict_outcome}
use Rattle.desk_feed.proofs.OneMatrix.{matrix-same}

-- a verdict is put alone: no file is written, and no lines are appended
pub put-alone : (refused : List ℕ) (timetable : TimetableView) (matrix : MatrixView) (claim : Result ClaimedView ClaimFault)
    → ((claim_outcome refused timetable matrix claim).writes ≡ []) × ((claim_outcome refused timetable matrix claim).lines ≡ None)
put-alone refused timetable matrix (Err fault) = (refl, refl)
put-alone refused timetable matrix (Ok claimed) = by (verdict_of timetable matrix claimed)
  where
    by : (verdict : Verdict) → ((verdict_outcome refused timetable claimed verdict).writes ≡ [])
        × ((verdict_outcome refused timetable claimed verdict).lines ≡ None)
    by (Yes vehicles minutes) = (refl, refl)
    by (No reason) = (refl, refl)

module _ (read : ReadView) (said : FeedView) (timetable : TimetableView) (matrix : MatrixView) (stands : timetable ≡ standing said)
    (is : IsMatrixFor said matrix) where
  -- the verdict on a claim
  pub check-given : {E : Type 0} (result : Result OutcomeView E) (refused : List ℕ) → refused ≡ refused_of said
      → (claim : Result ClaimedView ClaimFault) → claim ≡ claim_in read said → Proves timetable matrix claim
      → IfOk result (λ outcome. outcome ≡ claim_outcome refused timetable matrix claim) → IfOk result (IsGivenOf check_does read said)
  check-given (Err e) refused refused_is claim claim_is proved done = tt
  check-given (Ok outcome) refused refused_is claim claim_is proved done =
      let here : outcome ≡ checked read said matrix = done ∙ (λ i. claim_outcome (refused_is i) (stands i) matrix (claim_is i)) in
      record {
        gives = record {
          matrix = matrix;
          matrix_is = is;
          done = here;
          proved = subst (λ (t : TimetableView). Proves t matrix (claim_in read said)) stands
              (subst (Proves timetable matrix) claim_is proved);
        };
        ends = λ other other_is. ap (λ (o : OutcomeView). o.ending)
            (here ∙ ap (checked read said) (matrix-same said.entries said.pulls said.rules
            (length said.base.places) matrix other is other_is));
        unkept = λ _. ap (λ (o : OutcomeView). o.lines) here ∙ (put-alone (refused_of said) (standing said) matrix (claim_in read said)).1;
      }
