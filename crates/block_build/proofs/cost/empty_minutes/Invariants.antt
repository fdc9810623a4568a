use Rattle.std.proofs.Common.{◌≡◌, ◌+◌, drop}
use Rattle.deadhead_matrix.specs.Fitting.{network_of}
use Rattle.trip_model.specs.Blocking.{empty_minutes}
use Rattle.block_build.proofs.cost.empty_minutes.Given as goal

abbrev pub invariant-loop-number : goal.invariant-loop-number
invariant-loop-number l =
    let network = network_of l.timetable l.matrix in
    l.minutes + empty_minutes network (drop l.number l.blocks) ≡ empty_minutes network l.blocks
