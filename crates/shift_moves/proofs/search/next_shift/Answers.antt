use Rattle.std.proofs.Common.{rules, sym, subst}
use Rattle.std.proofs.lemmas.Int.{to_z-of_z}
use Rattle.shift_moves.specs.Lowering.{IsFirst}
use Rattle.shift_moves.proofs.Sizes.{IsFirst-of_slot}
use Rattle.shift_moves.proofs.search.next_shift.Goals as goal
use mir.Syntax.{w16}

pub returns-in-Some-clause-first : goal.returns-in-Some-clause-first
returns-in-Some-clause-first g c =
    subst (IsFirst c.args.timetable.now c.loop-slot.slot) (sym (to_z-of_z w16 c.in-Some.by (search rules)))
    (IsFirst-of_slot c.args.timetable.now c.loop-slot.slot c.in-Some.by c.loop-slot.invariant.none c.in-Some.ensures.first)
