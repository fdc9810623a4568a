use Rattle.std.proofs.Common.{◌++◌, ◌||◌, ◌∙◌}
use Rattle.std.specs.Prelude.{string_bytes}
use Rattle.edit_script.specs.declared.edit.Line.TheVariants as line
use Rattle.desk_feed.specs.Script.{refusal_text}
use Rattle.desk_feed.proofs.ScriptLemmas.{IsStepped-at, refusals-next}
use Rattle.desk_feed.proofs.script.RefusalsFollowerUnit.follow.Goals as goal

pub returns-clause-stands : goal.returns-clause-stands
returns-clause-stands c = λ was had lines n number_is at stands.
    let refusals = c.args.self.now in
    let refused = c.in_ok-refused.refused in
    refusals-next was.script.timetable lines n refused refusals.script _ (string_bytes refusals.text) _ refusals.some _ stands
    (IsStepped-at lines n c.args.number c.args.line.now refused refusals.script _ number_is at c.in_ok-refused.ensures.stepped)
    (c.in_ok-push_if_refused.ensures ∙ λ i. string_bytes refusals.text ++ refusal_text (number_is i) (at.is line.NotAnEdit i) refused)
    (λ i. refusals.some || c.is_some.ensures i)
