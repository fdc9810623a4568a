use Rattle.std.proofs.Common.{◌∙◌, ◌+◌, get_or, take, arith}
use Rattle.list_search.specs.Lists.{value_of}
use Rattle.list_search.specs.Trees.{columns_of}
use Rattle.list_search.specs.declared.lists.Pair.{Pair}
use Rattle.list_search.proofs.ListLemmas.{pair-at, value-next}
use Rattle.list_search.proofs.SettleLemmas.{settled-next, kept-next, low-next}
use Rattle.list_search.proofs.tree.Tree.settle_row.Goals as goal

pub settle_column-requires-clause-column : goal.settle_column-requires-clause-column
settle_column-requires-clause-column c =
    let none : Pair = record { column = 0; value = 0 } in
    omega (
      arith,
      (pair-at _ 0 c.args.pairs.now c.loop-place.place none c.requires.row c.loop-place-test.true).1,
      c.loop-place.invariant.slots,
    )

pub settle_column-requires-clause-low : goal.settle_column-requires-clause-low
settle_column-requires-clause-low c =
    let none : Pair = record { column = 0; value = 0 } in
    let loop = c.loop-place in
    let pair : Pair = get_or c.args.pairs.now loop.place none in
    let more = value-next _ 0 c.args.pairs.now loop.place none c.requires.row c.loop-place-test.true in
    low-next c.args.fall (columns_of c.args.self.now) c.args.enter.now (columns_of loop.self) loop.enter pair.column
    (loop.invariant.kept pair.column more.none) (c.requires.low pair.column)

pub loop-place-preserved : goal.loop-place-preserved
loop-place-preserved c =
    let none : Pair = record { column = 0; value = 0 } in
    let loop = c.loop-place in
    let pairs = c.args.pairs.now in
    let pair : Pair = get_or pairs loop.place none in
    let more = value-next _ 0 pairs loop.place none c.requires.row c.loop-place-test.true in
    record {
      slots = c.settle_column.ensures.slots ∙ loop.invariant.slots;
      same = (c.settle_column.ensures.same.0 ∙ loop.invariant.same.0, c.settle_column.ensures.same.1 ∙ loop.invariant.same.1);
      settled =
          settled-next c.args.fall (columns_of c.args.self.now) (columns_of loop.self) (columns_of c.settle_column.new.self)
          c.args.enter.now loop.enter c.settle_column.new.enter (value_of (take loop.place pairs)) (value_of (take (loop.place + 1) pairs))
          pair.column pair.value more loop.invariant.settled loop.invariant.kept c.settle_column.ensures.settled
          c.settle_column.ensures.kept;
      kept =
          kept-next (columns_of c.args.self.now) (columns_of loop.self) (columns_of c.settle_column.new.self)
          c.args.enter.now loop.enter c.settle_column.new.enter (value_of (take loop.place pairs)) (value_of (take (loop.place + 1) pairs))
          pair.column pair.value more loop.invariant.kept c.settle_column.ensures.kept;
    }
