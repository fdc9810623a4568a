use Rattle.std.proofs.Common.{◌<◌, subst, sym}
use Rattle.edit_script.specs.Script.{ScriptView}
use Rattle.edit_script.proofs.KeptLemmas.{IsKept-changed, script_seen-changed}
use Rattle.edit_script.proofs.script.Script.change.Goals as goal

pub invariant_of-self-2 : goal.invariant_of-self-2
invariant_of-self-2 c =
    IsKept-changed c.self.inside.timetable _ c.self.inside.log _ c.self.inside.standing.items _ c.self.inside.last
    (record { number = c.args.number; slot = c.args.judged.slot; made = c.args.judged.made })
    (subst (λ (s : ScriptView). s.last < c.args.number) (sym c.self.view_is) c.requires.next) c.self.invariant c.in_ok-touched.ensures.back
    c.in_ok-touched.ensures.was c.push-forgotten.ensures.lists c.in_ok-touched.ensures.standing

pub returns-clause-done : goal.returns-clause-done
returns-clause-done c =
    script_seen-changed c.args.self.now c.self.inside.timetable _ c.self.inside.log _ c.self.inside.standing.items _ c.self.inside.last
    c.self.inside.shows (record { number = c.args.number; slot = c.args.judged.slot; made = c.args.judged.made })
    c.self.view_is c.in_ok-touched.ensures.made c.in_ok-touched.ensures.back c.push-forgotten.ensures.lists c.in_ok-touched.ensures.standing
