-- One record after the other: terms of the functions inside.
use Rattle.std.specs.Prelude.{◌≡◌, ◌≢◌, ℕ, List, ◌++◌, Option, None, Some, string_bytes, ⊤}
use Rattle.edit_script.specs.declared.fault.EditFault.TheVariants as edit_fault
use Rattle.trip_model.specs.Timetable.{TimetableView}
use Rattle.deadhead_matrix.specs.Matrix.{MatrixView}
use Rattle.planner_desk.specs.Machine.{line_after, or_stays}
use Rattle.planner_desk.specs.Planners.{PlannersView}
use Rattle.planner_desk.specs.declared.edit.PlannerLine.{PlannerLine}
use Rattle.planner_desk.specs.declared.fault.PlannerFault.{PlannerFault}
use Rattle.planner_desk.specs.declared.fault.PlannerFault.TheVariants as fault
use Rattle.planners_command.specs.declared.answers.PlannerAnswers.{PlannerAnswers}
use Rattle.planners_command.specs.Answers.{answers_to}
use Rattle.planners_command.specs.Moments.{refusal_in, one_refused, stand_at}
use Rattle.planners_command.specs.Numbers.{IsNumbered}

-- what a record does to planners: those stand that the machine makes of it, or it is refused and changes nothing
pub record IsStepped (number : ℕ) (line : PlannerLine) (refused : Option PlannerFault) (old new : PlannersView) : Type 0 where
  pub base : new.base ≡ old.base
  pub standing : new.standing ≡ or_stays old.standing (line_after old.base old.standing number line)
  pub answer : refused ≡ refusal_in (line_after old.base old.standing number line)

-- Those stand that the machine makes of so many of the records, what becomes of these was put, and whether one was refused is known.
pub record AreAnswers (base : TimetableView) (lines : List PlannerLine) (n : ℕ) (answers : PlannerAnswers) : Type 0 where
  pub base_is : answers.planners.base ≡ base
  pub stand : answers.planners.standing ≡ stand_at base lines n
  pub text : string_bytes answers.text ≡ answers_to base lines n
  pub some : answers.some ≡ one_refused base lines n

-- a refusal is no lack of memory
abbrev pub IsTold : PlannerFault → Type 0
IsTold fault.Memory = ⊥
IsTold (fault.Refused refused) = refused ≢ edit_fault.Memory
IsTold refused = ⊤

abbrev pub IsToldIn : Option PlannerFault → Type 0
IsToldIn None = ⊤
IsToldIn (Some refused) = IsTold refused

-- the numbers of a timetable were put behind a text
pub record HasNumbers (timetable : TimetableView) (matrix : MatrixView) (old new : List ℕ) : Type 0 where
  pub numbers : List ℕ
  pub numbered : IsNumbered timetable matrix numbers
  pub put : new ≡ old ++ numbers
