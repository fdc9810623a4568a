use Rattle.std.proofs.Common.{◌≡◌, ◌+◌, drop}
use Rattle.trip_model.specs.Blocking.{empty_minutes}
use Rattle.deadhead_matrix.specs.Fitting.{network_of}
use Rattle.block_audit.specs.Stated.{slots_by}
use Rattle.block_audit.proofs.cost.stated_cost.Given as goal

abbrev pub invariant-loop-b : goal.invariant-loop-b
invariant-loop-b l =
    let network = network_of l.timetable l.matrix in
    l.minutes + empty_minutes network (drop l.b (slots_by l.stated)) ≡ empty_minutes network (slots_by l.stated)
