use Rattle.std.proofs.Common.{◌≡◌, ◌*◌, ◌≤◌, take}
use Rattle.price_check.specs.Reasons.{price_sum}
use Rattle.price_check.proofs.prices.price_sum.Given as goal

abbrev pub invariant-loop-row : goal.invariant-loop-row
invariant-loop-row l = record {
  summed : l.sum ≡ price_sum (take l.row-index l.rows);
  bound : l.sum ≤ 1999999999998 * l.row-index;
}
