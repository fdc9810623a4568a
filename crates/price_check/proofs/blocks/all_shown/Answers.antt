use Rattle.std.proofs.lemmas.Result.{err_from_is_err_and}
use Rattle.std.proofs.Common.{length}
use Rattle.price_check.proofs.First.{none_first, found_first}
use Rattle.price_check.proofs.blocks.all_shown.Goals as goal

pub returns-in_err-shown_at : goal.returns-in_err-shown_at
returns-in_err-shown_at c =
    let p = err_from_is_err_and c.from_residual.result c.from_residual.ensures.1 in
    rw (p.1, p.2) (found_first _ (length c.args.rows.now) c.loop-at.at _ c.loop-at.invariant c.loop-at-test.true c.in_err-shown_at.ensures)

pub returns : goal.returns
returns c = none_first _ _ c.loop-at.at c.loop-at.invariant c.loop-at-test.false
