-- What `blocks` gives of an accepted feed is what it asks.
use Rattle.std.proofs.Common.{◌≡◌, ◌++◌, List, None, ℕ, Result, Ok, Err, length, ap, subst, ◌∙◌, arith}
use Rattle.std.specs.Prelude.{All, IfOk, OnOk, string_bytes}
use Rattle.trip_model.specs.Timetable.{TimetableView}
use Rattle.edit_script.specs.declared.edit.Line.{Line}
use Rattle.deadhead_matrix.specs.Matrix.{MatrixView}
use Rattle.deadhead_matrix.specs.Pulls.{IsPull}
use Rattle.desk_run.specs.Outcome.{OutcomeView}
use Rattle.desk_run.specs.Reading.{ReadView, found_of}
use Rattle.desk_feed.specs.Feed.{FeedView, standing}
use Rattle.desk_feed.specs.Edited.{standing_after}
use Rattle.desk_feed.specs.Judging.{said_in}
use Rattle.desk_feed.specs.Schedule.{IsMatrixFor}
use Rattle.claim_files.specs.Written.{AreOfPlan, IsAccepted}
use Rattle.assignment_model.specs.Prices.{Plan}
use Rattle.plan_choice.specs.Likings.{LikingsView}
use Rattle.desk_core.specs.Counts.{blocks_in}
use Rattle.block_names.specs.Names.{NamingView}
use Rattle.feed_names.specs.Laws.{TripsAreNamed}
use Rattle.feed_naming.specs.Commands.{IsGivenNamed}
use Rattle.feed_likings.specs.Likings.{likings_in}
use Rattle.feed_desk.specs.Drawn.{HasFollowed}
use Rattle.feed_desk.specs.Plans.{ArePlanned, plan_at}
use Rattle.feed_desk.specs.declared.follow.Followed.{Followed}
use Rattle.blocks_command.specs.Answers.{answer_text, numbers_text}
use Rattle.blocks_command.specs.Blocks.{IsNamedBy, blocks_named, plan_files, plan_names, plans_outcome}

-- what is written and put of a desk that has followed a script is that of its plans, and so are the names of its blocks
module _ {D E : Type 0} (base : TimetableView) (lines : List Line) (matrix : MatrixView) (likings : LikingsView) (naming : NamingView)
    (followed : Followed D) (has : HasFollowed (answer_text matrix naming) base lines matrix likings followed) where
  pub named-last : (result : Result OutcomeView E)
      → OnOk result (IsNamedBy naming followed.desk.script.timetable followed.desk.plan)
      → OnOk result (IsNamedBy naming (standing_after base lines) (plan_at base lines matrix likings (length lines)))
  named-last (Err e) named = tt
  named-last (Ok outcome) named = subst (λ p. IsNamedBy naming (standing_after base lines) p) has.plan
      (subst (λ t. IsNamedBy naming t followed.desk.plan) has.timetable named)

  pub done-last : (result : Result OutcomeView E)
      → IfOk result (λ outcome. outcome ≡ record {
        writes = plan_files followed.desk.script.timetable followed.desk.matrix naming followed.desk.plan;
        lines = None;
        text = string_bytes followed.text ++ numbers_text followed.desk.script.timetable followed.desk.matrix followed.desk.plan;
        ending = followed.ending;
      })
      → IfOk result (λ outcome. outcome ≡ plans_outcome base lines matrix likings naming)
  done-last (Err e) done = tt
  done-last (Ok outcome) done = done ∙ (λ i. record {
    writes = plan_files (has.timetable i) (has.matrix_is i) naming (has.plan i);
    lines = None;
    text = has.text i ++ numbers_text (has.timetable i) (has.matrix_is i) (has.plan i);
    ending = has.ending i;
  })

  pub are-of : (result : Result OutcomeView E) → OnOk result (ArePlanned base lines matrix likings)
  are-of (Err e) = tt
  are-of (Ok outcome) = has.are

  pub pulls-of : (result : Result OutcomeView E) → OnOk result (All IsPull matrix.pulls)
  pulls-of (Err e) = tt
  pulls-of (Ok outcome) = has.pulls

-- what is needed of the laws
abbrev pub AcceptsPlans : Type 0
AcceptsPlans = (timetable : TimetableView) (matrix : MatrixView) (names : List (List ℕ)) (plan : Plan) (blocks : List (List ℕ))
    → AreOfPlan timetable matrix names plan blocks
    → IsAccepted timetable matrix names blocks plan.leave plan.enter

-- what is said of the plans of a feed, by its likings
abbrev pub SaysPlans : {E : Type 0} → NamingView → FeedView → MatrixView → Result OutcomeView E → LikingsView → Type 0
SaysPlans naming said matrix result likings =
    let plan = plan_at said.base said.lines matrix likings (length said.lines) in
    OnOk result (ArePlanned said.base said.lines matrix likings) × OnOk result (IsNamedBy naming (standing said) plan)
    × IfOk result (λ outcome. outcome ≡ plans_outcome said.base said.lines matrix likings naming)

pub plan-given : {E : Type 0} (read : ReadView) (naming : NamingView) (said : FeedView) (matrix : MatrixView)
    → AcceptsPlans → TripsAreNamed → said_in read ≡ Ok said → IsMatrixFor said matrix
    → (result : Result OutcomeView E) → OnOk result (All IsPull matrix.pulls)
    → SaysPlans naming said matrix result (likings_in read said.settings said.base)
    → IfOk result (IsGivenNamed blocks_named read naming said)
plan-given read naming said matrix accepts trips says is (Err e) pulls has = tt
plan-given read naming said matrix accepts trips says is (Ok outcome) pulls (are, named, done) =
    let plan = plan_at said.base said.lines matrix (likings_in read said.settings said.base) (length said.lines) in
    let scheduled = are.scheduled (length said.lines) (omega arith) in
    record {
      gives = record {
        matrix = matrix;
        matrix_is = is;
        are = are;
        pulls = pulls;
        named = named;
        done = done;
        accepted = accepts (standing said) matrix (plan_names naming (standing said) plan) plan (blocks_in (standing said) plan) (record {
          valid = are.valid (length said.lines) (omega arith);
          pulls = pulls;
          certified = scheduled.certified;
          along = scheduled.along;
          named = named;
          names = trips (found_of read.pages) said says;
        });
      };
      ends = ap (λ (o : OutcomeView). o.ending) done;
      unkept = ap (λ (o : OutcomeView). o.lines) done;
    }
