-- A desk after the script of a feed, and the one plan that is drawn, written and listed.
use Rattle.std.specs.Prelude.{◌≡◌, ℕ, List, length, All, string_bytes}
use Rattle.trip_model.specs.Timetable.{TimetableView}
use Rattle.edit_script.specs.declared.edit.Line.{Line}
use Rattle.deadhead_matrix.specs.Matrix.{MatrixView}
use Rattle.assignment_model.specs.Prices.{Plan}
use Rattle.deadhead_matrix.specs.Pulls.{IsPull}
use Rattle.plan_choice.specs.Likings.{LikingsView}
use Rattle.desk_core.specs.Counts.{blocks_in}
use Rattle.desk_feed.specs.Edited.{ending_after, refused_text, standing_after}
use Rattle.feed_desk.specs.Answers.{Answer, answers_by}
use Rattle.feed_desk.specs.Plans.{ArePlanned, plan_at}
use Rattle.feed_desk.specs.declared.follow.Followed.{Followed}
use Rattle.feed_desk.specs.declared.draw.Drawn.{Drawn}

-- A desk has followed a script. It is where the script ends, with the last of its plans. This was put of the records.
pub record HasFollowed {D : Type 0} (answer : Answer) (base : TimetableView) (lines : List Line) (matrix : MatrixView)
    (likings : LikingsView) (followed : Followed D) : Type 0 where
  pub are : ArePlanned base lines matrix likings
  pub pulls : All IsPull matrix.pulls
  pub timetable : followed.desk.script.timetable ≡ standing_after base lines
  pub matrix_is : followed.desk.matrix ≡ matrix
  pub plan : followed.desk.plan ≡ plan_at base lines matrix likings (length lines)
  pub text : string_bytes followed.text ≡ answers_by answer base lines (plan_at base lines matrix likings) (length lines)
  pub ending : followed.ending ≡ ending_after base lines

-- The plan of a command that draws one, and its blocks: it is the last of the plans of a script.
pub record IsDrawn (base : TimetableView) (lines : List Line) (matrix : MatrixView) (likings : LikingsView) (plan : Plan)
    (blocks : List (List ℕ)) : Type 0 where
  pub are : ArePlanned base lines matrix likings
  pub last : plan ≡ plan_at base lines matrix likings (length lines)
  pub along : blocks ≡ blocks_in (standing_after base lines) plan

-- the desk after a script, its plan drawn, with the lines of refused records
pub record HasDrawn {D : Type 0} (base : TimetableView) (lines : List Line) (matrix : MatrixView) (likings : LikingsView)
    (drawn : Drawn D) : Type 0 where
  pub plan : IsDrawn base lines matrix likings drawn.desk.plan drawn.blocks
  pub timetable : drawn.desk.script.timetable ≡ standing_after base lines
  pub matrix_is : drawn.desk.matrix ≡ matrix
  pub refused : drawn.refused ≡ refused_text base lines
  pub ending : drawn.ending ≡ ending_after base lines
