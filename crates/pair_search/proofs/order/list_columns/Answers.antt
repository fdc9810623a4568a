use Rattle.std.proofs.Common.{◌≡◌, ◌<◌, map, length, sym, ◌∙◌, arith}
use Rattle.std.proofs.lemmas.List.{get_or-map, length-map, same_lists}
use Rattle.pair_search.specs.Arranged.{column_of}
use Rattle.pair_search.proofs.order.list_columns.Goals as goal

pub returns : goal.returns
returns c =
    let count : length c.loop-place.columns ≡ length (map column_of c.args.ranks.now) =
    omega (arith, length-map c.args.ranks.now column_of, c.loop-place.auto.columns, c.requires.count) in
    same_lists c.loop-place.columns (map column_of c.args.ranks.now) count
    (λ k d lt.
    let within : k < length c.args.ranks.now = omega (arith, lt, c.loop-place.auto.columns, c.requires.count) in
    let done : k < c.loop-place.place = omega (arith, within, c.loop-place-test.false) in
    c.loop-place.invariant k d done ∙ sym (get_or-map column_of c.args.ranks.now k 0 d within))
