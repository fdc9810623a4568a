use Rattle.std.proofs.Common.{arith}
use Rattle.pair_search.proofs.DeterminedLemmas.{first_nearest-found}
use Rattle.list_search.proofs.tree.Tree.nearest.Goals as goal

pub returns-clause-picked : goal.returns-clause-picked
returns-clause-picked c =
    let loop = c.loop-block in
    let was = c.args.self.now in
    first_nearest-found loop.best.column loop.best.distance c.args.bound was.done.items was.dist.items loop.invariant.some
    (λ j lt undone. loop.invariant.least j (omega (arith, lt, c.loop-block-test.false, was.few, was.dist.ok.0)) lt undone)
    loop.invariant.ahead
    loop.invariant.none
