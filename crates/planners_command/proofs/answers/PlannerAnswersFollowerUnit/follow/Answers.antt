use Rattle.std.proofs.Common.{◌≡◌, ◌+◌, ◌++◌, ◌||◌, refl, sym, ap, ◌∙◌}
use Rattle.std.specs.Prelude.{is_some}
use Rattle.planner_desk.specs.Machine.{line_after, or_stays}
use Rattle.planner_desk.specs.declared.edit.PlannerLine.TheVariants as line
use Rattle.planners_command.specs.Answers.{answer_line}
use Rattle.planners_command.specs.Moments.{refusal_in, stand_at, step_at}
use Rattle.planners_command.proofs.MomentsLemmas.{answers-next, some-next, stand-next}
use Rattle.planners_command.proofs.answers.PlannerAnswersFollowerUnit.follow.Goals as goal

pub returns-clause-stands : goal.returns-clause-stands
returns-clause-stands c = λ was had lines n number_is at so_far.
    let base = was.planners.base in
    let stepped = c.in_ok-refused.ensures.stepped in
    let here = at.is line.NotAnEdit in
    let due : line_after c.args.self.now.planners.base c.args.self.now.planners.standing c.args.number c.args.line.now ≡ step_at base lines
    n = λ i. line_after (so_far.base_is i) (so_far.stand i) (number_is i) (here i) in
    let standing : c.step_planners.new.planners.standing ≡ or_stays (stand_at base lines n) (step_at base lines n) = stepped.standing
    ∙ (λ i. or_stays (so_far.stand i) (due i)) in
    let answer : c.in_ok-refused.refused ≡ refusal_in (step_at base lines n) = stepped.answer ∙ ap refusal_in due in
    record {
      base_is = stepped.base ∙ so_far.base_is;
      stand = standing ∙ sym (stand-next base lines n (n + 1) refl);
      text = c.in_ok-push_answer.ensures ∙ (λ i. so_far.text i ++ answer_line (number_is i) (standing i) (here i) (answer i))
          ∙ sym (answers-next base lines n (n + 1) refl);
      some = (λ i. so_far.some i || (c.is_some.ensures ∙ ap is_some answer) i) ∙ sym (some-next base lines n (n + 1) refl);
    }
