-- What is put of the records of a script, by the plan at each moment.
use Rattle.std.specs.Prelude.{ℕ, suc, ◌+◌, List, [], ◌++◌, Option}
use Rattle.trip_model.specs.Timetable.{TimetableView}
use Rattle.edit_script.specs.declared.edit.Line.{Line}
use Rattle.edit_script.specs.declared.fault.EditFault.{EditFault}
use Rattle.assignment_model.specs.Prices.{Plan}
use Rattle.desk_feed.specs.Script.{gathered, line_at, refusal_in, refusal_text, standing_at, step_at}

-- what is put of a record, by its number and its line, the timetable and the plan after it, and why it is refused
abbrev pub Answer : Type 0
Answer = ℕ → Line → TimetableView → Plan → Option EditFault → List ℕ

-- the lines of refused records alone
abbrev pub refusals : Answer
refusals number line timetable plan refused = refusal_text number line refused

module _ (answer : Answer) (base : TimetableView) (lines : List Line) where
  -- what is put of so many of the first records, by the plans of all moments
  unfoldable pub answers_by : (ℕ → Plan) → ℕ → List ℕ
  answers_by plans = gathered [] λ n text.
      text ++ answer (n + 1) (line_at lines n) (standing_at base lines (suc n)) (plans (suc n)) (refusal_in (step_at base lines n))
