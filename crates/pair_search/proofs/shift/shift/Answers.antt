use Rattle.std.proofs.Common.{◌≡◌, ◌+◌, ◌-◌, set, subst, arith}
use Rattle.std.specs.Prelude.{IfSome, IfNone}
use Rattle.std.proofs.lemmas.List.{get_or_read}
use Rattle.trip_model.specs.Links.{next_of}
use Rattle.pair_search.specs.Search.{at}
use Rattle.pair_search.proofs.AlongLemmas.{IsShiftedUpto, IsShiftedUpto-first, IsShiftedUpto-more, IsShifted-along}
use Rattle.pair_search.proofs.shift.shift.Goals as goal

pub loop-place-init : goal.loop-place-init
loop-place-init c =
    IsShiftedUpto-first c.args.next.now c.args.tree.now.dist.items c.args.tree.now.far.items c.args.tree.now.rows.items c.args.grown.size
    c.args.grown.end.fall c.args.leave.now c.args.enter.now

pub loop-place-preserved : goal.loop-place-preserved
loop-place-preserved c =
    let tree = c.args.tree.now in
    let grown = c.args.grown in
    let next = c.args.next.now in
    let loop = c.loop-place in
    let row : c.index-row.result.now ≡ at tree.rows.items loop.place =
    get_or_read tree.rows.items loop.place c.index-row.result.now
    (omega (arith, tree.rows.ok.0, c.requires.places, c.loop-place-test.true)) c.index-row.ensures 0 in
    let far : c.index-far.result.now ≡ at tree.far.items loop.place =
    get_or_read tree.far.items loop.place c.index-far.result.now
    (omega (arith, tree.far.ok.0, tree.rows.ok.0, tree.row_places, tree.far_places, c.requires.places, c.loop-place-test.true))
    c.index-far.ensures 0 in
    let gain = grown.end.fall - c.index-far.result.now in
    let was : IsShiftedUpto next tree.dist.items tree.far.items tree.rows.items grown.size grown.end.fall loop.place c.args.leave.now
    c.args.enter.now loop.leave loop.enter = loop.invariant in
    IsShiftedUpto-more next tree.dist.items tree.far.items tree.rows.items grown.size grown.end.fall loop.place gain
    c.args.leave.now c.args.enter.now loop.leave loop.enter c.pass_on.new.leave c.pass_on.new.enter
    c.requires.along c.loop-place-test.true (omega (arith, far)) (omega (arith, loop.auto.leave, c.requires.next))
    (λ i j linked. omega (arith, c.requires.within i j linked, loop.auto.enter))
    (subst (λ i. c.pass_on.new.leave ≡ set loop.leave i (at loop.leave i - gain)) row c.pass_on.ensures.leave)
    (subst (λ i. IfSome (next_of next i) (λ j. c.pass_on.new.enter ≡ set loop.enter j (at loop.enter j + gain))) row
    c.pass_on.ensures.some)
    (subst (λ i. IfNone (next_of next i) (c.pass_on.new.enter ≡ loop.enter)) row c.pass_on.ensures.none) was

pub returns : goal.returns
returns c =
    let tree = c.args.tree.now in
    let grown = c.args.grown in
    let next = c.args.next.now in
    let loop = c.loop-place in
    let last : IsShiftedUpto next tree.dist.items tree.far.items tree.rows.items grown.size grown.end.fall grown.size c.args.leave.now
    c.args.enter.now loop.leave loop.enter =
    subst (λ place. IsShiftedUpto next tree.dist.items tree.far.items tree.rows.items grown.size grown.end.fall place c.args.leave.now
    c.args.enter.now loop.leave loop.enter)
    (omega (arith, c.loop-place-test.false, loop.auto.place-end)) loop.invariant in
    IsShifted-along next tree.dist.items tree.far.items tree.rows.items grown.size grown.end.fall c.args.leave.now c.args.enter.now
    loop.leave loop.enter c.requires.along (omega (arith, c.requires.enter, tree.dist.ok.0)) c.requires.within last
