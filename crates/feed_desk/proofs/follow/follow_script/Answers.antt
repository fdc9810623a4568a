use Rattle.std.proofs.Common.{length, ap, arith, false, refl, sym, subst, ◌∙◌}
use Rattle.std.specs.Prelude.{All}
use Rattle.assignment_model.specs.Choice.{IsChosen}
use Rattle.deadhead_matrix.specs.Fitting.{network_of}
use Rattle.deadhead_matrix.specs.Matrix.{MatrixView}
use Rattle.deadhead_matrix.specs.Pulls.{IsPull}
use Rattle.edit_script.specs.Script.{ScriptView}
use Rattle.trip_model.specs.Timetable.{IsTimetable, TimetableView}
use Rattle.desk_core.specs.Computed.{first_plan, likes}
use Rattle.desk_core.specs.Counts.{blocks_in}
use Rattle.desk_core.specs.Standing.{IsOpened}
use Rattle.desk_feed.specs.Script.{ending_by}
use Rattle.feed_desk.specs.Drawn.{HasFollowed}
use Rattle.feed_desk.specs.Moments.{IsAnswered}
use Rattle.feed_desk.specs.declared.follow.Followed.{Followed}
use Rattle.feed_desk.proofs.MomentsLemmas.{IsAnswered-none, has-followed}
use Rattle.feed_desk.proofs.follow.follow_script.Goals as goal

pub follow_records-requires-clause-ready : goal.follow_records-requires-clause-ready
follow_records-requires-clause-ready g c =
    omega (arith, ap (λ (s : ScriptView). s.last) (c.in_ok-desk.ensures.script ∙ c.in_ok-script.ensures))

pub follow_records-requires-clause-stands : goal.follow_records-requires-clause-stands
follow_records-requires-clause-stands g c =
    let desk = c.in_ok-desk.desk in
    let lines = c.args.lines.now in
    let answer = g.A.Answers.answer c.args.answers desk.matrix in
    let opened : IsOpened desk = record {
      timetable = c.args.timetable;
      script = c.in_ok-desk.ensures.script ∙ c.in_ok-script.ensures;
      earlier = c.in_ok-desk.ensures.earlier;
      later = c.in_ok-desk.ensures.later;
    } in
    let steps = c.open-2.new.steps in (
      refl,
      subst (λ text. IsAnswered answer desk.script.timetable lines desk steps 0 desk text false steps) (sym c.new.ensures.bytes)
          (IsAnswered-none c.machine_law.ensures.start answer lines desk opened c.plan-plan.ensures.certified
          (subst IsTimetable c.timetable.ensures.timetable c.slots-slots.ensures.valid) steps),
    )

pub returns-clause-followed : goal.returns-clause-followed
returns-clause-followed g c =
    let desk = c.in_ok-desk.desk in
    let lines = c.args.lines.now in
    let likings = c.args.likings.now in
    let answer = g.A.Answers.answer c.args.answers in
    let script = c.in_ok-desk.ensures.script ∙ c.in_ok-script.ensures in
    let opened : IsOpened desk = record {
      timetable = c.args.timetable;
      script = script;
      earlier = c.in_ok-desk.ensures.earlier;
      later = c.in_ok-desk.ensures.later;
    } in
    let begun = c.in_ok-desk.ensures.plan
    ∙ (λ i. first_plan (sym c.in_ok-desk.ensures.script i).timetable (sym c.in_ok-desk.ensures.matrix i) likings) in
    let chosen : IsChosen (network_of desk.script.timetable desk.matrix) (likes desk.script.timetable desk.matrix likings)
    (blocks_in desk.script.timetable desk.plan) =
    subst (λ (s : ScriptView). IsChosen (network_of s.timetable desk.matrix) (likes s.timetable desk.matrix likings)
    (blocks_in s.timetable desk.plan)) (sym c.in_ok-desk.ensures.script)
    (subst (λ (m : MatrixView). IsChosen (network_of c.in_ok-script.script.timetable m) (likes c.in_ok-script.script.timetable m likings)
    (blocks_in c.in_ok-script.script.timetable desk.plan)) (sym c.in_ok-desk.ensures.matrix) c.in_ok-desk.ensures.chosen) in
    let pulls = subst (λ (m : MatrixView). All IsPull m.pulls) (sym c.in_ok-desk.ensures.matrix) c.places-places.ensures.valid in
    let answered = c.in_ok-follow_records.ensures.stands.1 in
    let done = c.follow_records.new.follower in
    let followed : Followed _ = record { desk = done.desk; text = done.text; ending = c.ending_by.result } in
    subst (λ (t : TimetableView). HasFollowed (answer c.args.matrix) t lines c.args.matrix likings followed)
    (ap (λ (s : ScriptView). s.timetable) script)
    (subst (λ (m : MatrixView). HasFollowed (answer m) desk.script.timetable lines m likings followed) c.in_ok-desk.ensures.matrix
    (has-followed c.same_edits_law.ensures c.plan_law.ensures c.plain_law.ensures.moves c.plain_law.ensures.made
    c.plain_blocks_law.ensures.reached
    desk.script.timetable lines desk done.desk (length lines) answered.desks answered.are opened likings begun pulls chosen
    (answer desk.matrix) followed refl refl answered.put (c.ending_by.ensures ∙ ap ending_by answered.some_is)))
