use Rattle.std.proofs.Common.{◌≡◌, if◌then◌else◌, ap, arith}
use Rattle.std.proofs.lemmas.Bool.{le-ltb}
use Rattle.pair_search.specs.Groups.{begins, group_at}
use Rattle.pair_search.specs.Side.{side_slots}
use Rattle.pair_search.proofs.DeterminedLemmas.{first_nearest-found}
use Rattle.pair_search.proofs.scan.nearest.Goals as goal

pub returns-clause-picked : goal.returns-clause-picked
returns-clause-picked c =
    let side = c.args.side.now in
    let loop = c.loop-group in
    let all : begins (side_slots side) side.count side.groups loop.group ≡ side_slots side =
    ap (λ b. if b then (group_at side.groups loop.group).from else side_slots side)
    (le-ltb loop.group side.count (omega (arith, c.loop-group-test.false, c.groups-group-end.ensures.count))) in
    first_nearest-found loop.best.column loop.best.distance c.args.bound c.args.done.now c.args.dist.now loop.invariant.some
    (λ j lt undone. loop.invariant.least j (omega (arith, lt, all, c.requires.slots)) undone)
    loop.invariant.ahead
    loop.invariant.none
