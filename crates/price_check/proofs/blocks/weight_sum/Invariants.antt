use Rattle.std.proofs.Common.{◌≡◌, ◌*◌, ◌≤◌}
use Rattle.trip_model.proofs.Counting.{sum_below}
use Rattle.deadhead_matrix.specs.Fitting.{network_of}
use Rattle.price_check.specs.Reasons.{weight_before}
use Rattle.price_check.proofs.blocks.weight_sum.Given as goal

abbrev pub invariant-loop-at : goal.invariant-loop-at
invariant-loop-at l = record {
  summed : l.sum ≡ sum_below (weight_before (network_of l.timetable l.matrix) l.rows) l.at;
  bound : l.sum ≤ 67111744 * l.at;
}
