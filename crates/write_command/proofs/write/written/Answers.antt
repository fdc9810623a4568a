use Rattle.std.proofs.Common.{◌++◌, length, None, ap, subst, ◌∙◌}
use Rattle.block_build.specs.Names.{AreBlockNames}
use Rattle.write_command.specs.Write.{files_of, written_line}
use Rattle.write_command.proofs.write.written.Goals as goal

pub returns : goal.returns
returns c =
    let drawn = c.args.drawn.now in
    let writes = c.in_ok-writes.ensures
    ∙ (λ i. files_of c.args.settings.now (c.timetable-timetable.ensures.timetable i) drawn.blocks (c.in_ok-names.ensures.names i)
    c.args.trips.now c.args.stop_times) in
    let text = c.wrap.ensures ∙ c.in_ok-text.ensures.ok ∙ ap (λ r. r ++ written_line) c.as_str-refused.ensures in
    record {
      named = subst (AreBlockNames (length drawn.blocks)) c.in_ok-names.ensures.names c.in_ok-names.ensures.valid;
      done = c.of.ensures ∙ (λ i. record { writes = writes i; lines = None; text = text i; ending = drawn.ending });
    }
