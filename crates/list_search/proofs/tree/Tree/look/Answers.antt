use Rattle.std.proofs.Common.{◌∙◌, ◌+◌, ◌-◌, get_or, take, arith}
use Rattle.pair_search.specs.Search.{at}
use Rattle.list_search.specs.Lists.{value_of}
use Rattle.list_search.specs.Trees.{columns_of}
use Rattle.list_search.specs.declared.lists.Pair.{Pair}
use Rattle.list_search.proofs.ListLemmas.{pair-at, value-at, value-next}
use Rattle.list_search.proofs.LookedLemmas.{AreLooked-step}
use Rattle.list_search.proofs.tree.Tree.look.Goals as goal

pub bounds-enter-pair : goal.bounds-enter-pair
bounds-enter-pair c =
    let none : Pair = record { column = 0; value = 0 } in
    omega (
      arith,
      (pair-at _ 0 c.args.pairs.now c.loop-place.place none c.requires.row c.loop-place-test.true).1,
      c.requires.enter,
    )

pub overflow_add-along : goal.overflow_add-along
overflow_add-along c =
    let none : Pair = record { column = 0; value = 0 } in
    let pair : Pair = get_or c.args.pairs.now c.loop-place.place none in
    omega (
      arith,
      c.requires.start,
      c.requires.low pair.column pair.value (value-at _ 0 c.args.pairs.now c.loop-place.place none c.requires.row c.loop-place-test.true),
    )

pub overflow_sub-along : goal.overflow_sub-along
overflow_sub-along c =
    let none : Pair = record { column = 0; value = 0 } in
    let pair : Pair = get_or c.args.pairs.now c.loop-place.place none in
    omega (
      arith,
      c.requires.covers pair.column pair.value (value-at _ 0 c.args.pairs.now c.loop-place.place none c.requires.row c.loop-place-test.true),
    )

pub approach-requires-clause-column : goal.approach-requires-clause-column
approach-requires-clause-column c =
    let none : Pair = record { column = 0; value = 0 } in
    omega (
      arith,
      (pair-at _ 0 c.args.pairs.now c.loop-place.place none c.requires.row c.loop-place-test.true).1,
      c.loop-place.invariant.slots,
    )

pub loop-place-preserved : goal.loop-place-preserved
loop-place-preserved c =
    let none : Pair = record { column = 0; value = 0 } in
    let loop = c.loop-place in
    let pairs = c.args.pairs.now in
    let pair : Pair = get_or pairs loop.place none in
    let was = loop.self in
    let now = c.approach.new.self in
    let within = (pair-at _ 0 pairs loop.place none c.requires.row c.loop-place-test.true).1 in
    let value = value-at _ 0 pairs loop.place none c.requires.row c.loop-place-test.true in
    let covered = c.requires.covers pair.column pair.value value in
    record {
      slots = c.approach.ensures.slots ∙ loop.invariant.slots;
      rows = (c.approach.ensures.rows.0 ∙ loop.invariant.rows.0, c.approach.ensures.rows.1 ∙ loop.invariant.rows.1);
      done = c.approach.ensures.done ∙ loop.invariant.done;
      looked =
          AreLooked-step (value_of (take loop.place pairs)) (value_of (take (loop.place + 1) pairs)) pair.column pair.value _ c.args.from
          c.args.start c.args.enter.now (columns_of c.args.self.now) was.dist.items was.parent.items was.done.items now.dist.items
          now.parent.items now.done.items (c.args.start + at c.args.enter.now pair.column - pair.value)
          (value-next _ 0 pairs loop.place none c.requires.row c.loop-place-test.true) loop.invariant.looked loop.invariant.done
          c.approach.ensures.done (omega (arith, covered))
          (omega (arith, within, loop.invariant.slots, was.dist.ok.0))
          (omega (arith, within, loop.invariant.slots, was.parent.ok.0, was.parents)) c.approach.ensures.one;
      near = c.approach.ensures.near;
    }
