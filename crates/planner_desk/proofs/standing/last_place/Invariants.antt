use Rattle.std.proofs.Common.{◌≡◌, ◌<◌, drop}
use Rattle.std.specs.Prelude.{IfSome}
use Rattle.planner_desk.specs.Standing as spec
use Rattle.planner_desk.proofs.standing.last_place.Given as goal

abbrev pub invariant-loop-n : goal.invariant-loop-n
invariant-loop-n l = (spec.last_from l.planner l.n l.last (drop l.n l.standing) ≡ spec.last_place l.planner l.standing)
    × IfSome l.last (λ k. k < l.n)
