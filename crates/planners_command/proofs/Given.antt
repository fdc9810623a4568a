-- What `planners` gives of an accepted feed is what it asks.
use Rattle.std.proofs.Common.{◌≡◌, ℕ, List, ◌++◌, length, Result, Ok, Err, None, sym, ap, subst, ◌∙◌}
use Rattle.std.specs.Prelude.{IfOk}
use Rattle.std.proofs.lemmas.List.{append_assoc}
use Rattle.gtfs_tables.specs.declared.fault.FeedFault.{FeedFault}
use Rattle.trip_model.specs.Timetable.{TimetableView}
use Rattle.deadhead_matrix.specs.Matrix.{MatrixView}
use Rattle.desk_run.specs.Outcome.{OutcomeView}
use Rattle.desk_run.specs.Reading.{ReadView}
use Rattle.desk_run.specs.declared.status.Ending.{Ending}
use Rattle.desk_feed.specs.Feed.{FeedView, standing}
use Rattle.desk_feed.specs.Judging.{IsGivenOf, refused_of, refusing}
use Rattle.desk_feed.specs.Schedule.{IsMatrixFor}
use Rattle.desk_feed.specs.declared.script.Edited.{Edited}
use Rattle.desk_feed.specs.Edited.{IsEdited, refusing_first}
use Rattle.planner_desk.specs.declared.edit.PlannerLine.{PlannerLine}
use Rattle.planner_desk.specs.declared.standing.Standing.{Standing}
use Rattle.planner_desk.specs.Standing.{timetable_of}
use Rattle.planners_command.specs.Answers.{answers_to, standing_text}
use Rattle.planners_command.specs.Moments.{ArePlanners, stand_after, timetable_after}
use Rattle.planners_command.specs.Numbers.{IsNumbered}
use Rattle.planners_command.specs.Planners.{PlannersEndBy, GivesBy, PutsPlanners, IsPlanners, ending_behind, planners_does, planners_text}
use Rattle.planners_command.specs.Reading.{lines_in}
use Rattle.planners_command.specs.Stepped.{HasNumbers}

-- how a run ends that does this, and that it appends no lines
ends-by : (said : FeedView) (lines : Result (List PlannerLine) FeedFault) (outcome : OutcomeView) → GivesBy said lines outcome
    → PlannersEndBy said lines outcome.ending
ends-by said (Ok lines) outcome gives = ap (λ (o : OutcomeView). o.ending) gives.planned.done
ends-by said (Err refused) outcome gives = ap (λ (o : OutcomeView). o.ending) gives

unkept-by : (said : FeedView) (lines : Result (List PlannerLine) FeedFault) (outcome : OutcomeView) → GivesBy said lines outcome
    → outcome.lines ≡ None
unkept-by said (Ok lines) outcome gives = ap (λ (o : OutcomeView). o.lines) gives.planned.done
unkept-by said (Err refused) outcome gives = ap (λ (o : OutcomeView). o.lines) gives

given-of : (read : ReadView) (said : FeedView) (outcome : OutcomeView) → GivesBy said (lines_in read) outcome
    → IsGivenOf planners_does read said outcome
given-of read said outcome gives = record {
  gives = gives;
  ends = ends-by said (lines_in read) outcome gives;
  unkept = λ _. unkept-by said (lines_in read) outcome gives;
}

-- a script of planners that was read, and one that is refused
pub lines-given : {E : Type 0} (read : ReadView) (said : FeedView) (lines : List PlannerLine) → lines_in read ≡ Ok lines
    → (result : Result OutcomeView E)
    → IfOk result (IsPlanners said lines) → IfOk result (IsGivenOf planners_does read said)
lines-given read said lines is (Err e) planned = tt
lines-given read said lines is (Ok outcome) planned = given-of read said outcome (subst (λ due. GivesBy said due outcome) (sym is) planned)

pub refused-given : {E : Type 0} (read : ReadView) (said : FeedView) (refused : FeedFault) → lines_in read ≡ Err refused
    → (result : Result OutcomeView E) → IfOk result (λ outcome. outcome ≡ refusing refused)
    → IfOk result (IsGivenOf planners_does read said)
refused-given read said refused is (Err e) put = tt
refused-given read said refused is (Ok outcome) put = given-of read said outcome (subst (λ due. GivesBy said due outcome) (sym is) put)

-- what is put over a timetable after the script is put of the feed
pub planners-of : {E : Type 0} (said : FeedView) (lines : List PlannerLine) (matrix : MatrixView) (edited : Edited)
    → IsMatrixFor said matrix → IsEdited said.base said.lines edited → ArePlanners (standing said) lines
    → (result : Result OutcomeView E) → IfOk result (PutsPlanners edited.refused edited.ending edited.script.timetable matrix lines)
    → IfOk result (IsPlanners said lines)
planners-of said lines matrix edited matrix_is is are (Err e) planned = tt
planners-of said lines matrix edited matrix_is is are (Ok outcome) planned = record {
  are = are;
  matrix = matrix;
  matrix_is = matrix_is;
  planned = subst (λ end. PutsPlanners (refused_of said) end (standing said) matrix lines outcome) is.ending
      (subst (λ refused. PutsPlanners refused edited.ending (standing said) matrix lines outcome) is.refused
      (subst (λ (t : TimetableView). PutsPlanners edited.refused edited.ending t matrix lines outcome) is.timetable planned));
}

-- the numbers behind what becomes of the records and the records that stand
pub planned-put : {E : Type 0} (refused : List ℕ) (end : Ending) (base : TimetableView) (matrix : MatrixView) (lines : List PlannerLine)
    (timetable : TimetableView) (standing : List Standing) (text above whole : List ℕ) (ending : Ending)
    → standing ≡ stand_after base lines → timetable ≡ timetable_of base standing → text ≡ answers_to base lines (length lines)
    → above ≡ text ++ standing_text standing → HasNumbers timetable matrix above whole
    → ending ≡ ending_behind base lines end → (result : Result OutcomeView E)
    → IfOk result (λ outcome. outcome ≡ refusing_first refused whole ending) → IfOk result (PutsPlanners refused end base matrix lines)
planned-put refused end base matrix lines timetable standing text above whole ending stand is text_is above_is has ending_is (Err e) done =
    tt
planned-put refused end base matrix lines timetable standing text above whole ending stand is text_is above_is has ending_is (Ok outcome)
    done =
    let here : timetable ≡ timetable_after base lines = is ∙ ap (timetable_of base) stand in
    let put : whole ≡ planners_text base lines has.numbers =
    has.put ∙ (λ i. (above_is ∙ (λ j. text_is j ++ standing_text (stand j))) i ++ has.numbers)
    ∙ append_assoc (answers_to base lines (length lines)) (standing_text (stand_after base lines)) has.numbers in
    record {
      numbers = has.numbers;
      numbered = subst (λ (t : TimetableView). IsNumbered t matrix has.numbers) here has.numbered;
      done = done ∙ (λ i. refusing_first refused (put i) (ending_is i));
    }
