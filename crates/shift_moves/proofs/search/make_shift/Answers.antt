use Rattle.std.proofs.Common.{rules}
use Rattle.shift_moves.proofs.Holding.{HoldsAmong-swapped}
use Rattle.shift_moves.proofs.search.make_shift.Goals as goal

pub replace-requires-clause-held : goal.replace-requires-clause-held
replace-requires-clause-held g c =
    HoldsAmong-swapped _ _ _ c.args.timetable.now _ c.slots-slots.ensures.valid c.moves_of.ensures.swapped c.requires.held

pub returns-clause-held : goal.returns-clause-held
returns-clause-held g c = search rules
