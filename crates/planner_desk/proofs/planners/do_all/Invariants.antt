use Rattle.std.proofs.Common.{◌≡◌, drop}
use Rattle.planner_desk.specs.Standing.{Folds, timetable_of}
use Rattle.planner_desk.proofs.planners.do_all.Given as goal

abbrev pub invariant-loop-done : goal.invariant-loop-done
invariant-loop-done l =
    Folds l.script.timetable (drop l.done-index l.standing)
    × (timetable_of l.script.timetable (drop l.done-index l.standing) ≡ timetable_of l.fn.script.timetable l.standing)
