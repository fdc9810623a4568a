use Rattle.std.proofs.Common.{refl, sym, ◌∙◌}
use Rattle.planners_command.proofs.MomentsLemmas.{answers-none, some-none, stand-none}
use Rattle.planners_command.proofs.answers.answer_all.Goals as goal

pub follow_records-requires-clause-stands : goal.follow_records-requires-clause-stands
follow_records-requires-clause-stands c =
    let base = c.args.planners.base in
    let lines = c.args.lines.now in
    record {
      base_is = refl;
      stand = c.requires.opened ∙ sym (stand-none base lines);
      text = c.new.ensures.bytes ∙ sym (answers-none base lines);
      some = sym (some-none base lines);
    }
