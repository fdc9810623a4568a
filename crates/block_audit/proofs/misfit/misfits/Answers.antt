use Rattle.std.proofs.Common.{length, sym, subst, arith}
use Rattle.std.specs.Prelude.{All}
use Rattle.price_check.specs.Claim.{Runs}
use Rattle.block_audit.proofs.StepsLemmas.{IsOf, all-made, block-all, misfits-of}
use Rattle.block_audit.proofs.misfit.misfits.Goals as goal

pub push_block-requires-clause-runs : goal.push_block-requires-clause-runs
push_block-requires-clause-runs c =
    subst (All (Runs c.args.timetable.now)) (sym c.block.ensures)
    (block-all (Runs c.args.timetable.now) c.args.stated.now c.loop-b.b (omega (arith, c.loop-b-test.true, c.len-b-end.ensures.count))
    c.requires.runs)

pub returns-clause-blocks : goal.returns-clause-blocks
returns-clause-blocks c = λ k d h.
    let t = c.args.timetable.now in
    let m = c.args.matrix.now in
    let stated = c.args.stated.now in
    let made = all-made t m stated c.loop-b.misfits.items c.loop-b.b (omega (arith, c.loop-b-test.false, c.len-b-end.ensures.count))
    c.loop-b.invariant in
    (subst (All (IsOf t m (length stated))) (sym made) (misfits-of t m stated c.requires.runs) k d h).within

pub returns-clause-slots : goal.returns-clause-slots
returns-clause-slots c = λ k d h.
    let t = c.args.timetable.now in
    let m = c.args.matrix.now in
    let stated = c.args.stated.now in
    let made = all-made t m stated c.loop-b.misfits.items c.loop-b.b (omega (arith, c.loop-b-test.false, c.len-b-end.ensures.count))
    c.loop-b.invariant in
    let is = subst (All (IsOf t m (length stated))) (sym made) (misfits-of t m stated c.requires.runs) k d h in
    (is.before, is.after)
