use Rattle.std.proofs.Common.{Some, ap, arith, ◌∙◌}
use mir.Syntax.{w8}
use mir.Val.{of_z}
use Rattle.block_writer.proofs.TablesWritten.{none-moved}
use Rattle.block_writer.proofs.stop_times.moves_some.Goals as goal

pub returns-clause-none : goal.returns-clause-none
returns-clause-none c still =
    none-moved c.args.timetable.now c.args.base c.loop-slot.slot (omega (arith, c.slots-slot-end.ensures.count)) c.loop-slot.invariant

pub returns-then-offset_at-ne0-clause-some : goal.returns-then-offset_at-ne0-clause-some
returns-then-offset_at-ne0-clause-some c moves =
    (Some c.loop-slot.slot, λ none. c.if-offset_at-ne0.true (ap (of_z w8) (c.offset_at.ensures ∙ none)))
