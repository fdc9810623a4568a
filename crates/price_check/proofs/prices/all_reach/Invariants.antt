use Rattle.deadhead_matrix.specs.Fitting.{network_of}
use Rattle.price_check.specs.Claim.{price_row}
use Rattle.price_check.specs.Reasons.{low_from}
use Rattle.price_check.proofs.First.{NoneBelow}
use Rattle.price_check.proofs.prices.all_reach.Given as goal

abbrev pub invariant-loop-at : goal.invariant-loop-at
invariant-loop-at l = NoneBelow (λ b. low_from (network_of l.onward.timetable l.onward.matrix) l.onward.slot l.leave (price_row l.rows b))
    l.at
