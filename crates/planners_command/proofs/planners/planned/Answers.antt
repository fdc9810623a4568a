use Rattle.std.proofs.Common.{◌≡◌, ◌+◌, ◌≤◌, length, ap, subst, ◌∙◌}
use Rattle.std.specs.Prelude.{IfOk}
use Rattle.trip_model.specs.Timetable.{TimetableView}
use Rattle.desk_feed.specs.Edited.{refusing_first}
use Rattle.desk_feed.specs.Schedule.{most_steps}
use Rattle.planner_desk.specs.Planners.{PlannersView}
use Rattle.planner_desk.specs.Standing.{timetable_of}
use Rattle.planners_command.specs.Answers.{answers_to}
use Rattle.planners_command.specs.Moments.{one_refused, stand_after}
use Rattle.planners_command.specs.Planners.{ending_with}
use Rattle.planners_command.proofs.Given.{planned-put}
use Rattle.planners_command.proofs.PlannersLaws.{places-standing}
use Rattle.planners_command.proofs.planners.planned.Goals as goal

pub push_numbers-requires : goal.push_numbers-requires
push_numbers-requires g c =
    let base = ap (λ (p : PlannersView). p.base) c.in_ok-planners.ensures ∙ c.in_ok-copy.ensures ∙ c.timetable-base.ensures in
    let stands = c.timetable-timetable.ensures in
    let planners = c.in_ok-answers.answers.planners in
    record {
      places = ap length (ap (λ (t : TimetableView). t.places) stands.value
          ∙ places-standing planners.base planners.standing stands.folds
          ∙ ap (λ (t : TimetableView). t.places) (c.in_ok-answers.ensures.base_is ∙ base)) ∙ c.requires.places;
    }

pub returns-clause-counted : goal.returns-clause-counted
returns-clause-counted g c =
    let lines = c.args.lines.now in
    let base = ap (λ (p : PlannersView). p.base) c.in_ok-planners.ensures ∙ c.in_ok-copy.ensures ∙ c.timetable-base.ensures in
    let planners = c.in_ok-answers.answers.planners in
    let here = c.timetable-timetable.ensures.value
    ∙ (λ i. timetable_of ((c.in_ok-answers.ensures.base_is ∙ base) i)
    ((c.in_ok-answers.ensures.stand ∙ ap (λ b. stand_after b lines) base) i)) in
    subst (λ (t : TimetableView). c.push_numbers.new.steps ≤ c.args.steps.now + most_steps (length t.slots)) here
    c.push_numbers.ensures.counted

pub returns-clause-planned : goal.returns-clause-planned
returns-clause-planned g c =
    let edited = c.args.edited.now in
    let lines = c.args.lines.now in
    let given = c.in_ok-answers.ensures in
    let standing = c.in_ok-answers.answers.planners.standing in
    let base = ap (λ (p : PlannersView). p.base) c.in_ok-planners.ensures ∙ c.in_ok-copy.ensures ∙ c.timetable-base.ensures in
    planned-put edited.refused edited.ending edited.script.timetable c.args.matrix.now lines c.timetable-timetable.result.now standing _ _
    _ c.ending_with-ending.result
    (given.stand ∙ ap (λ b. stand_after b lines) base)
    (c.timetable-timetable.ensures.value ∙ ap (λ b. timetable_of b standing) (given.base_is ∙ base))
    (given.text ∙ ap (λ b. answers_to b lines (length lines)) base)
    c.in_ok-push_standing.ensures
    c.in_ok-push_numbers.ensures.numbers
    (c.ending_with-ending.ensures ∙ ap (λ some. ending_with some edited.ending)
    (given.some ∙ ap (λ b. one_refused b lines (length lines)) base))
    c.putting_after.result
    (subst (λ text. IfOk c.putting_after.result (λ outcome. outcome ≡ refusing_first edited.refused text c.ending_with-ending.result))
    c.wrap.ensures c.putting_after.ensures)
