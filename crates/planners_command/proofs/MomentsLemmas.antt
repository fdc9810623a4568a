-- The records of planners, one after the other.
use Rattle.std.proofs.Common.{◌≡◌, ℕ, suc, ◌+◌, false, List, [], ◌∷◌, ◌++◌, Result, Ok, Err, ◌||◌, refl, sym, ap, ◌∙◌, arith}
use Rattle.std.specs.Prelude.{is_some}
use Rattle.std.proofs.lemmas.List.Sums.{fold_push}
use Rattle.trip_model.specs.Timetable.{TimetableView}
use Rattle.desk_feed.specs.Script.{gathered}
use Rattle.planner_desk.specs.Machine.{or_stays, planners_machine, with_record}
use Rattle.planner_desk.specs.declared.edit.PlannerLine.{PlannerLine}
use Rattle.planner_desk.specs.declared.fault.PlannerFault.{PlannerFault}
use Rattle.planner_desk.specs.declared.standing.Standing.{Standing}
use Rattle.planners_command.specs.Answers.{answer_line, answers_to}
use Rattle.planners_command.specs.Moments.{first_records, line_at, record_at, refusal_in, one_refused, stand_at, step_at}

-- the records of a moment, and what was put of them
first-none : (lines : List PlannerLine) → first_records lines 0 ≡ []
unfolding first_records gathered
first-none lines = refl

first-next : (lines : List PlannerLine) (n : ℕ) → first_records lines (suc n) ≡ first_records lines n ++ record_at lines n ∷ []
unfolding first_records gathered
first-next lines n = refl

pub answers-none : (base : TimetableView) (lines : List PlannerLine) → answers_to base lines 0 ≡ []
unfolding answers_to gathered
answers-none base lines = refl

answers-suc : (base : TimetableView) (lines : List PlannerLine) (n : ℕ)
    → answers_to base lines (suc n) ≡ answers_to base lines n
    ++ answer_line (n + 1) (stand_at base lines n) (line_at lines n) (refusal_in (step_at base lines n))
unfolding answers_to gathered
answers-suc base lines n = refl

pub some-none : (base : TimetableView) (lines : List PlannerLine) → one_refused base lines 0 ≡ false
unfolding one_refused gathered
some-none base lines = refl

some-suc : (base : TimetableView) (lines : List PlannerLine) (n : ℕ)
    → one_refused base lines (suc n) ≡ (one_refused base lines n || is_some (refusal_in (step_at base lines n)))
unfolding one_refused gathered
some-suc base lines n = refl

-- none stand before the first, and each makes those that the machine makes of it
pub stand-none : (base : TimetableView) (lines : List PlannerLine) → stand_at base lines 0 ≡ []
stand-none base lines = ap (planners_machine base) (first-none lines)

pub stand-suc : (base : TimetableView) (lines : List PlannerLine) (n : ℕ)
    → stand_at base lines (suc n) ≡ or_stays (stand_at base lines n) (step_at base lines n)
stand-suc base lines n = ap (planners_machine base) (first-next lines n)
    ∙ fold_push (with_record base) [] (first_records lines n) (record_at lines n)

-- what is put of a record is the same by those that stand after it: a refused one changes nothing, and of others none are told
answer-same : (number : ℕ) (standing : List Standing) (line : PlannerLine) (due : Result (List Standing) PlannerFault)
    → answer_line number (or_stays standing due) line (refusal_in due) ≡ answer_line number standing line (refusal_in due)
unfolding answer_line
answer-same number standing line (Ok next) = refl
answer-same number standing line (Err refused) = refl

-- one more record
module _ (base : TimetableView) (lines : List PlannerLine) (n k : ℕ) (next : k ≡ n + 1) where
  is_suc : suc n ≡ k
  is_suc = omega (arith, next)

  pub stand-next : stand_at base lines k ≡ or_stays (stand_at base lines n) (step_at base lines n)
  stand-next = sym (ap (stand_at base lines) is_suc) ∙ stand-suc base lines n

  pub some-next : one_refused base lines k ≡ (one_refused base lines n || is_some (refusal_in (step_at base lines n)))
  some-next = sym (ap (one_refused base lines) is_suc) ∙ some-suc base lines n

  pub answers-next : answers_to base lines k ≡ answers_to base lines n
      ++ answer_line (n + 1) (or_stays (stand_at base lines n) (step_at base lines n)) (line_at lines n) (refusal_in (step_at base lines n))
  answers-next = sym (ap (answers_to base lines) is_suc) ∙ answers-suc base lines n
      ∙ ap (λ text. answers_to base lines n ++ text)
      (sym (answer-same (n + 1) (stand_at base lines n) (line_at lines n) (step_at base lines n)))
