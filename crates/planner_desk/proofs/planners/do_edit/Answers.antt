use Rattle.std.proofs.Common.{◌≡◌, sym, ap, subst}
use Rattle.std.specs.Prelude.{IfOk}
use Rattle.edit_script.specs.Machine.{or_same}
use Rattle.planner_desk.proofs.Accepted.{accepted-wants}
use Rattle.planner_desk.proofs.planners.do_edit.Goals as goal

pub only_memory-requires : goal.only_memory-requires
only_memory-requires c = accepted-wants c.args.script.now.timetable c.args.edit.now c.requires.accepted c.in-Err.refused c.in-Err.ensures

pub returns-in-Ok : goal.returns-in-Ok
returns-in-Ok c =
    subst (λ t. IfOk c.do_judged.result (λ _. c.do_judged.new.script.timetable ≡ t))
    (sym (ap (or_same c.args.script.now.timetable) c.in-Ok.ensures.does)) c.do_judged.ensures.done
