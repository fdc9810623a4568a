use Rattle.std.proofs.Common.{length, ap, ◌∙◌}
use Rattle.std.proofs.lemmas.List.{get_or_read}
use Rattle.std.proofs.lemmas.Result.{err_from_is_err_and}
use Rattle.deadhead_matrix.specs.Fitting.{network_of}
use Rattle.price_check.specs.Reasons.{low_from}
use Rattle.price_check.proofs.First.{none_first, found_first}
use Rattle.price_check.proofs.prices.all_reach.Goals as goal

pub returns-in_err-reach : goal.returns-in_err-reach
returns-in_err-reach c =
    let p = err_from_is_err_and c.from_residual.result c.from_residual.ensures.1 in
    let row = get_or_read c.args.rows.now c.loop-at.at c.index-rows-at.result c.loop-at-test.true c.index-rows-at.is _ in
    rw (p.1, p.2) (found_first _ (length c.args.rows.now) c.loop-at.at _ c.loop-at.invariant c.loop-at-test.true
    (c.in_err-reach.ensures ∙ ap (low_from (network_of c.args.onward.now.timetable c.args.onward.now.matrix) c.args.onward.now.slot
    c.args.leave) row))

pub returns : goal.returns
returns c = none_first _ _ c.loop-at.at c.loop-at.invariant c.loop-at-test.false
