-- The desk at each moment of a script: terms of the functions inside.
use Rattle.std.specs.Prelude.{◌≡◌, ℕ, suc, ◌+◌, ◌<◌, ◌≤◌, Bool, List, Option, None, Some}
use Rattle.trip_model.specs.Timetable.{TimetableView, IsTimetable}
use Rattle.edit_script.specs.Machine.{IsAt}
use Rattle.edit_script.specs.Script.{IsNext}
use Rattle.edit_script.specs.declared.edit.Edit.{Edit}
use Rattle.edit_script.specs.declared.edit.Line.{Line}
use Rattle.edit_script.specs.declared.edit.Line.TheVariants as line
use Rattle.edit_script.specs.declared.fault.EditFault.{EditFault}
use Rattle.deadhead_matrix.specs.Matrix.{MatrixView}
use Rattle.deadhead_matrix.specs.Plans.{IsPlanFor}
use Rattle.desk_core.specs.Desk.{DeskView, IsDone}
use Rattle.desk_feed.specs.Script.{line_at, refusal_in, some_refused, state_at, step_at}
use Rattle.feed_desk.specs.Answers.{Answer, answers_by}
use Rattle.feed_desk.specs.Plans.{most_to}

-- an edit is done as that of some record, which may be applied
pub record IsEditDone (edit : Edit) (old new : DeskView) : Type 0 where
  pub number : ℕ
  pub next : IsNext old.script number edit
  pub done : IsDone number edit old new

-- what a record does to a desk: its edit is done, or it is refused and changes nothing
abbrev pub IsFollowed : Line → Option EditFault → DeskView → DeskView → Type 0
IsFollowed line.NotAnEdit None old new = ⊥
IsFollowed (line.Edit edit) None old new = IsEditDone edit old new
IsFollowed line (Some refused) old new = new ≡ old

-- a desk is where the machine is at a moment, and its plan is one for a valid timetable
pub record IsMoment (base : TimetableView) (lines : List Line) (matrix : MatrixView) (m : ℕ) (desk : DeskView) : Type 0 where
  pub at : IsAt base (state_at base lines m) desk.script
  pub matrix_is : desk.matrix ≡ matrix
  pub plan : IsPlanFor desk.script.timetable matrix desk.plan
  pub valid : IsTimetable desk.script.timetable

-- the desks at the moments from a first to a last one
pub record AreMoments (base : TimetableView) (lines : List Line) (first : DeskView) (m : ℕ) (last : DeskView)
    (desks : ℕ → DeskView) : Type 0 where
  pub begins : desks 0 ≡ first
  pub ends : desks m ≡ last
  pub each : (k : ℕ) → k ≤ m → IsMoment base lines first.matrix k (desks k)
  pub follow : (k : ℕ) → k < m → IsFollowed (line_at lines k) (refusal_in (step_at base lines k)) (desks k) (desks (suc k))

-- What was put of the records from a first moment to a last one, and whether one was refused. And how many steps there were
-- before and are now.
pub record IsAnswered (answer : Answer) (base : TimetableView) (lines : List Line) (first : DeskView) (had m : ℕ) (last : DeskView)
    (text : List ℕ) (some : Bool) (steps : ℕ) : Type 0 where
  pub desks : ℕ → DeskView
  pub are : AreMoments base lines first m last desks
  pub put : text ≡ answers_by answer base lines (λ k. (desks k).plan) m
  pub some_is : some ≡ some_refused base lines m
  pub counted : steps ≤ had + most_to base lines m
