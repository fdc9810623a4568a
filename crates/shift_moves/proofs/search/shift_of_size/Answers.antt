use Rattle.std.proofs.Common.{arith}
use Rattle.shift_moves.proofs.Sizes.{paid-for}
use Rattle.shift_moves.proofs.search.shift_of_size.Goals as goal

pub returns-clause-counted : goal.returns-clause-counted
returns-clause-counted g c =
    let size = c.args.size in
    let room = c.args.room in
    let first = paid-for _ c.args.steps.now c.is_lowering.new.steps size room.earlier c.requires.some c.is_lowering.ensures.counted
    c.is_lowering.ensures.uncounted c.lies_within-may.ensures.within in
    let second = paid-for _ c.is_lowering.new.steps c.is_lowering-2.new.steps size room.later c.requires.some
    c.is_lowering-2.ensures.counted c.is_lowering-2.ensures.uncounted c.lies_within-may-2.ensures.within in
    omega (arith, first, second)
