-- What is drawn after a script: the last plan, and its blocks.
use Rattle.std.proofs.Common.{◌≡◌, ℕ, List, length, ap, sym, subst, ◌∙◌, arith}
use Rattle.std.specs.Prelude.{string_bytes}
use Rattle.trip_model.specs.Timetable.{TimetableView, IsTimetable}
use Rattle.edit_script.specs.declared.edit.Line.{Line}
use Rattle.deadhead_matrix.specs.Matrix.{MatrixView}
use Rattle.assignment_model.specs.Prices.{Plan}
use Rattle.plan_choice.specs.Likings.{LikingsView}
use Rattle.desk_core.specs.Counts.{blocks_in}
use Rattle.desk_core.specs.Desk.{DeskView}
use Rattle.desk_feed.specs.Edited.{standing_after}
use Rattle.deadhead_matrix.specs.Plans.{IsScheduled}
use Rattle.feed_desk.specs.Answers.{refusals}
use Rattle.feed_desk.specs.Drawn.{HasDrawn, HasFollowed, IsDrawn}
use Rattle.feed_desk.specs.Plans.{plan_at}
use Rattle.feed_desk.specs.declared.draw.Drawn.{Drawn}
use Rattle.feed_desk.specs.declared.follow.Followed.{Followed}
use Rattle.feed_desk.proofs.MomentsLemmas.{refusals-are}

module _ (base : TimetableView) (lines : List Line) (matrix : MatrixView) (likings : LikingsView) (plan : Plan)
    (blocks : List (List ℕ)) (drawn : IsDrawn base lines matrix likings plan blocks) where
  -- the timetable after the script is valid
  pub drawn-valid : IsTimetable (standing_after base lines)
  drawn-valid = drawn.are.valid (length lines) (omega arith)

  -- and the blocks are those of a plan that its prices prove, least over all blockings
  pub drawn-scheduled : IsScheduled (standing_after base lines) matrix plan blocks
  drawn-scheduled =
      subst (IsScheduled (standing_after base lines) matrix plan) (sym drawn.along)
      (subst (λ plan. IsScheduled (standing_after base lines) matrix plan (blocks_in (standing_after base lines) plan)) (sym drawn.last)
      (drawn.are.scheduled (length lines) (omega arith)))

-- the blocks of the desk that has followed a script are drawn
pub has-drawn : {D : Type 0} (base : TimetableView) (lines : List Line) (matrix : MatrixView) (likings : LikingsView)
    (followed : Followed D) (drawn : Drawn D) → HasFollowed refusals base lines matrix likings followed
    → drawn.desk ≡ followed.desk → drawn.blocks ≡ blocks_in followed.desk.script.timetable followed.desk.plan
    → drawn.refused ≡ string_bytes followed.text → drawn.ending ≡ followed.ending
    → HasDrawn base lines matrix likings drawn
has-drawn base lines matrix likings followed drawn has desk blocks refused end = record {
  plan = record {
    are = has.are;
    last = ap (λ (d : DeskView). d.plan) desk ∙ has.plan;
    along = blocks ∙ (λ i. blocks_in (has.timetable i) ((ap (λ (d : DeskView). d.plan) (sym desk)) i));
  };
  timetable = ap (λ (d : DeskView). d.script.timetable) desk ∙ has.timetable;
  matrix_is = ap (λ (d : DeskView). d.matrix) desk ∙ has.matrix_is;
  refused = refused ∙ has.text ∙ refusals-are base lines (plan_at base lines matrix likings) (length lines);
  ending = end ∙ has.ending;
}
