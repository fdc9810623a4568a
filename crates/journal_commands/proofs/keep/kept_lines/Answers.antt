use Rattle.std.proofs.Common.{[], ap, arith, refl, subst, sym}
use Rattle.edit_script.specs.Machine.{IsAt, machine}
use Rattle.edit_script.specs.Script.{ScriptView}
use Rattle.journal_commands.specs.Replay.{all_records}
use Rattle.journal_commands.specs.declared.replay.Source.TheVariants as source
use Rattle.journal_commands.proofs.KeepLemmas.{kept-done}
use Rattle.journal_commands.proofs.ReplayLemmas.{through-none}
use Rattle.journal_commands.proofs.keep.kept_lines.Goals as goal

pub follow_records-requires-clause-ready : goal.follow_records-requires-clause-ready
follow_records-requires-clause-ready c = (omega arith, omega (arith, ap (λ (s : ScriptView). s.last) c.in_ok-script.ensures))

pub follow_records-requires-clause-stands : goal.follow_records-requires-clause-stands
follow_records-requires-clause-stands c = record {
  source = refl;
  before = refl;
  last = omega (arith, ap (λ (s : ScriptView). s.last) c.in_ok-script.ensures);
  through = λ base first at. through-none base first source.Journal 0 c.args.journal.now _ at;
}

pub follow_records-requires-2-clause-ready : goal.follow_records-requires-2-clause-ready
follow_records-requires-2-clause-ready c = (omega arith, omega (arith, c.in_ok-follow_records.ensures.stands.last))

pub follow_records-requires-2-clause-stands : goal.follow_records-requires-2-clause-stands
follow_records-requires-2-clause-stands c = record {
  source = refl;
  before = refl;
  last = omega (arith, c.in_ok-follow_records.ensures.stands.last);
  through = λ base first at. through-none base first source.Edits _ c.args.lines.now _ at;
}

pub returns : goal.returns
returns c =
    let base = c.args.timetable in
    let journal = c.args.journal.now in
    let one = c.in_ok-follow_records.ensures.stands.through base []
    (subst (IsAt base (machine base [])) (sym c.in_ok-script.ensures) (c.machine_law.ensures.start base)) in
    let two = c.in_ok-follow_records-2.ensures.stands.through base (all_records 0 journal) one.at in
    kept-done base c.args.stored.now journal c.args.lines.now _ c.follow_records.new.follower c.follow_records-2.new.follower
    one (record { at = two.at; text = two.text; kept = two.kept; some = two.some })
    c.in_ok-text.ensures.ok c.new.ensures.items refl c.appended.result c.appended.ensures
