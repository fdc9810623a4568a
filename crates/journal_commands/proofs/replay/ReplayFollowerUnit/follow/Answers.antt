use Rattle.std.proofs.Common.{◌+◌, ◌||◌, ◌++◌, ◌∙◌, arith, subst}
use Rattle.std.specs.Prelude.{string_bytes}
use Rattle.edit_script.specs.declared.edit.Line.TheVariants as line
use Rattle.desk_feed.specs.Script.{IsStepped}
use Rattle.journal_commands.specs.declared.replay.Replay.{Replay}
use Rattle.journal_commands.specs.Replay.{answer_line, kept_line}
use Rattle.journal_commands.proofs.ReplayLemmas.{through-next}
use Rattle.journal_commands.proofs.replay.ReplayFollowerUnit.follow.Goals as goal

pub returns-clause-stands : goal.returns-clause-stands
returns-clause-stands c = λ was had lines n number_is at stands.
    let replay = c.args.self.now in
    let l = c.args.line.now in
    let refused = c.in_ok-refused.refused in
    let next : Replay = record replay {
      script = c.step_script.new.script;
      text = c.push_answer.new.text;
      kept = c.keep_line.new.kept;
      some = replay.some || c.is_some.result;
    } in
    record {
      source = stands.source;
      before = stands.before;
      last = omega (arith, stands.before, number_is, c.in_ok-refused.ensures.last);
      through = λ base first starts. through-next base first was.source was.before lines n was replay next l refused
          (stands.through base first starts) (at.is line.NotAnEdit)
          (subst (λ number. IsStepped number l refused replay.script next.script) (λ i. stands.before i + number_is i)
          c.in_ok-refused.ensures.stepped)
          (c.in_ok-push_answer.ensures ∙ λ i. string_bytes replay.text ++ answer_line (stands.source i) (number_is i) l refused)
          (c.in_ok-keep_line.ensures ∙ λ i. replay.kept.items ++ kept_line (stands.source i) l refused)
          (λ i. replay.some || c.is_some.ensures i);
    }
