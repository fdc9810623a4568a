use Rattle.std.proofs.Common.{◌≡◌, None, get_or, ap, arith}
use Rattle.std.proofs.lemmas.List.{get_or_default}
use Rattle.pair_search.specs.declared.order.Column.{Column}
use Rattle.pair_search.proofs.order.first_of_few.Goals as goal

pub returns-then-columns-first-clause-later : goal.returns-then-columns-first-clause-later
returns-then-columns-first-clause-later c = λ k d from past lt.
    let first = c.loop-first.first in
    let columns = c.args.columns.now in
    let none : Column = record { post = None; minute = 0; slot = 0 } in
    let here : (get_or columns first d).minute ≡ (get_or columns first none).minute =
    ap (λ (x : Column). x.minute) (get_or_default columns first d none (omega (arith, c.loop-first-test.true, c.requires.within))) in
    omega (arith, here, c.if-columns-first.true, c.requires.rise first k d c.loop-first.invariant.after past lt)
