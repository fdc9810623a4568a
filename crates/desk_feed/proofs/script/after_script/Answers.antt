use Rattle.std.proofs.Common.{[], ap, arith, false, length, subst, sym, ◌∙◌}
use Rattle.edit_script.specs.Machine.{IsAt, machine}
use Rattle.edit_script.specs.Script.{ScriptView}
use Rattle.desk_feed.specs.Script as spec
use Rattle.desk_feed.specs.Script.{AreRefusals}
use Rattle.desk_feed.proofs.ScriptLemmas.{refusals-none, standing-places}
use Rattle.desk_feed.proofs.script.after_script.Goals as goal

pub follow_records-requires-clause-ready : goal.follow_records-requires-clause-ready
follow_records-requires-clause-ready c = omega (arith, ap (λ (s : ScriptView). s.last) c.in_ok-script.ensures)

pub follow_records-requires-clause-stands : goal.follow_records-requires-clause-stands
follow_records-requires-clause-stands c =
    let lines = c.args.lines.now in
    let script = c.in_ok-script.script in
    subst (λ text. AreRefusals script.timetable lines 0 script text false) (sym c.new.ensures.bytes)
    (refusals-none script.timetable lines script
    (subst (λ (s : ScriptView). IsAt s.timetable (machine s.timetable []) s) (sym c.in_ok-script.ensures)
    (c.machine_law.ensures.start c.args.timetable)))

pub returns-clause-edited : goal.returns-clause-edited
returns-clause-edited c =
    let lines = c.args.lines.now in
    let base = ap (λ (s : ScriptView). s.timetable) c.in_ok-script.ensures in
    let stands = c.in_ok-follow_records.ensures.stands in
    record {
      timetable = stands.at.timetable ∙ ap (λ base. spec.standing_at base lines (length lines)) base;
      refused = c.wrap.ensures ∙ stands.text_is ∙ ap (λ base. spec.refused_to base lines (length lines)) base;
      ending = c.ending_by.ensures ∙ ap spec.ending_by (stands.some_is ∙ ap (λ base. spec.some_refused base lines (length lines)) base);
    }

pub returns-clause-places : goal.returns-clause-places
returns-clause-places c =
    let base = ap (λ (s : ScriptView). s.timetable) c.in_ok-script.ensures in
    let lines = c.args.lines.now in
    ap (λ t. t.places) (c.in_ok-follow_records.ensures.stands.at.timetable ∙ ap (λ base. spec.standing_at base lines (length lines)) base)
    ∙ standing-places c.args.timetable lines (length lines)
