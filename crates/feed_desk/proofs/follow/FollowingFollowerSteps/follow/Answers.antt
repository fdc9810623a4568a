use Rattle.std.proofs.Common.{◌+◌, ◌-◌, ◌++◌, ◌||◌, Result, Ok, Err, length, ap, arith, refl, subst, ◌∙◌}
use Rattle.std.specs.Prelude.{OnErr, is_some, string_bytes}
use Rattle.trip_model.specs.Timetable.{IsTimetable}
use Rattle.edit_script.specs.declared.edit.Line.TheVariants as line
use Rattle.desk_feed.proofs.ScriptLemmas.{IsStepped-at}
use Rattle.feed_desk.specs.Moments.{IsFollowed}
use Rattle.feed_desk.specs.Plans.{most_for}
use Rattle.feed_desk.proofs.MomentsLemmas.{IsAnswered-next, most-le}
use Rattle.feed_desk.proofs.follow.FollowingFollowerSteps.follow.Goals as goal

stopped : {T E : Type 0} (result : Result T E) (S : Type 0) → S → OnErr result S
stopped (Ok x) S stops = tt
stopped (Err e) S stops = stops

pub returns-in_err-refused-clause-stops : goal.returns-in_err-refused-clause-stops
returns-in_err-refused-clause-stops g c = stopped c.from_residual.result _ (λ was had lines n number_is at stands.
    omega (
      arith,
      c.in_err-refused.ensures.uncounted,
      stands.1.counted,
      most-le was.desk.script.timetable lines n (length lines - n)
          (length lines) (omega (arith, at.within)),
    ))

pub returns-in_err-push_answer-clause-stops : goal.returns-in_err-push_answer-clause-stops
returns-in_err-push_answer-clause-stops g c = stopped c.from_residual-in_err-push_answer.result _ (λ was had lines n number_is at stands.
    let base = was.desk.script.timetable in
    let following = c.args.self.now in
    let next = c.step_desk.new.desk in
    let refused = c.in_ok-refused.refused in
    let here = at.is line.NotAnEdit in
    let answered = IsAnswered-next (g.A.Answers.answer was.answers) base lines was.desk had n following.desk next
    (string_bytes following.text) _ following.some _ c.step_desk.new.steps refused stands.1
    (IsStepped-at lines n c.args.number c.args.line.now refused following.desk.script next.script number_is at
    c.in_ok-refused.ensures.stepped)
    (subst (λ l. IsFollowed l refused following.desk next) here c.in_ok-refused.ensures.followed) c.in_ok-refused.ensures.matrix
    c.plan-plan.ensures.certified (subst IsTimetable c.timetable.ensures.timetable c.slots-slots.ensures.valid) refl
    (omega (arith, c.in_ok-refused.ensures.counted, ap (λ l. most_for l (length next.script.timetable.slots) refused) here))
    (following.some || is_some refused) refl in
    omega (arith, answered.counted, most-le base lines (n + 1) (length lines - (n + 1)) (length lines) (omega (arith, at.within))))

pub returns-clause-stands : goal.returns-clause-stands
returns-clause-stands g c = λ was had lines n number_is at stands.
    let base = was.desk.script.timetable in
    let following = c.args.self.now in
    let next = c.step_desk.new.desk in
    let refused = c.in_ok-refused.refused in
    let here = at.is line.NotAnEdit in
    let answered = IsAnswered-next (g.A.Answers.answer was.answers) base lines was.desk had n following.desk next
    (string_bytes following.text) _ following.some _ c.step_desk.new.steps refused stands.1
    (IsStepped-at lines n c.args.number c.args.line.now refused following.desk.script next.script number_is at
    c.in_ok-refused.ensures.stepped)
    (subst (λ l. IsFollowed l refused following.desk next) here c.in_ok-refused.ensures.followed) c.in_ok-refused.ensures.matrix
    c.plan-plan.ensures.certified (subst IsTimetable c.timetable.ensures.timetable c.slots-slots.ensures.valid)
    (c.in_ok-push_answer.ensures ∙ λ i. string_bytes following.text
    ++ g.A.Answers.answer (stands.0 i) next.matrix (number_is i) (here i) next.script.timetable next.plan refused)
    (omega (arith, c.in_ok-refused.ensures.counted, ap (λ l. most_for l (length next.script.timetable.slots) refused) here)) _
    (λ i. following.some || c.is_some.ensures i) in
    (stands.0, answered)
