use Rattle.std.proofs.Common.{◌≡◌, ◌+◌, drop}
use Rattle.planner_desk.specs.Standing as spec
use Rattle.planner_desk.specs.Standing.{standing_at}
use Rattle.planner_desk.proofs.standing.holder.Given as goal

abbrev pub invariant-loop-n : goal.invariant-loop-n
invariant-loop-n l =
    spec.holder (standing_at l.standing l.place) (drop l.n l.standing) ≡ spec.holder (standing_at l.standing l.place)
    (drop (l.place + 1) l.standing)
