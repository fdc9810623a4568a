use Rattle.std.proofs.Common.{length, arith}
use Rattle.std.proofs.lemmas.Result.{err_from_is_err_and}
use Rattle.feed_naming.specs.Naming.{stated_texts}
use Rattle.feed_naming.proofs.StatedLemmas.{stated-fails, stated-more}
use Rattle.feed_naming.proofs.naming.stated_texts.Goals as goal

pub returns-in_err-push_stated : goal.returns-in_err-push_stated
returns-in_err-push_stated c =
    let trips = c.args.trips.now in
    let chosen = c.args.chosen.now in
    let p = err_from_is_err_and c.from_residual.result c.from_residual.ensures.1 in
    rw (p.1, p.2) (stated-fails trips chosen (length trips.rows) c.loop-before.before c.loop-before.names.items (stated_texts trips chosen)
    c.loop-before.invariant c.in_err-push_stated.field-0.0 (omega (arith, c.records-before-end.ensures)) c.in_err-push_stated.ensures)

pub loop-before-preserved : goal.loop-before-preserved
loop-before-preserved c =
    let trips = c.args.trips.now in
    let chosen = c.args.chosen.now in
    stated-more trips chosen (length trips.rows) c.loop-before.before c.loop-before.names.items (stated_texts trips chosen)
    c.loop-before.invariant c.push_stated.new.names.items (omega (arith, c.records-before-end.ensures)) c.in_ok-push_stated.ensures
