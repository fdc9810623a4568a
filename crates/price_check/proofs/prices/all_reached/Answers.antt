use Rattle.std.proofs.lemmas.Result.{err_from_is_err_and}
use Rattle.std.proofs.Common.{length}
use Rattle.price_check.proofs.First.{none_first, found_first}
use Rattle.price_check.proofs.prices.all_reached.Goals as goal

pub returns-in_err-reach_from : goal.returns-in_err-reach_from
returns-in_err-reach_from c =
    let p = err_from_is_err_and c.from_residual.result c.from_residual.ensures.1 in
    rw (p.1, p.2) (found_first _ (length c.args.rows.now) c.loop-at.at _ c.loop-at.invariant c.loop-at-test.true
    c.in_err-reach_from.ensures)

pub returns : goal.returns
returns c = none_first _ _ c.loop-at.at c.loop-at.invariant c.loop-at-test.false
