use Rattle.std.proofs.Common.{take, get_or, arith}
use Rattle.std.proofs.lemmas.Int.{ints}
use Rattle.std.proofs.lemmas.List.{length-take}
use Rattle.trip_model.specs.declared.trip.Move.{Move}
use Rattle.joined_deficits.proofs.deficits.joined_deficits.Goals as goal

pub add-requires-clause-raised : goal.add-requires-clause-raised
add-requires-clause-raised g c =
    let n = c.loop-way.way-index in
    let none : Move = record { from = 0; to = 0; leaves = 0; arrives = 0 } in
    let way = get_or c.args.moves.now n none in
    let is = c.requires.moves n none (omega arith) in
    let bound = c.held_law.ensures.change c.loop-way.deficits (take n c.args.moves.now) way.from way.leaves c.loop-way.invariant.held
    (omega (arith, is.from, c.loop-way.invariant.places)) (omega (arith, is.forward, is.in_day)) in
    omega (arith, ints, bound.1, length-take n c.args.moves.now, c.requires.few)
