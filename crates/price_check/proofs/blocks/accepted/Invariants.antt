use Rattle.std.proofs.Common.{◌≡◌, ◌+◌, ◌*◌, ◌≤◌, length, drop, None}
use Rattle.deadhead_matrix.specs.Fitting.{network_of}
use Rattle.price_check.specs.Claim.{slot_before, blocks_in}
use Rattle.price_check.proofs.CostLemmas.{minutes_of}
use Rattle.price_check.proofs.blocks.accepted.Given as goal

abbrev pub invariant-loop-at : goal.invariant-loop-at
invariant-loop-at l = record {
  blocks : l.vehicles + length (blocks_in (drop l.at l.rows)) ≡ length (blocks_in l.rows);
  spent : l.minutes + minutes_of (network_of l.timetable l.matrix) (slot_before l.rows l.at) (drop l.at l.rows) ≡ minutes_of
      (network_of l.timetable l.matrix) None l.rows;
  few : l.vehicles ≤ l.at;
  bound : l.minutes ≤ 737280 * l.at;
}
