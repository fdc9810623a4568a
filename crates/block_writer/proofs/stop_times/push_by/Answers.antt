use Rattle.std.proofs.Common.{ap, ◌∙◌}
use Rattle.std.proofs.lemmas.Int.{to_z-of_z}
use mir.Syntax.{w8}
use mir.Val.{of_z}
use Rattle.block_writer.specs.StopTimes.{moved_row}
use Rattle.block_writer.proofs.FieldsWritten.{written-as}
use Rattle.block_writer.proofs.TablesWritten.{shifted-row}
use Rattle.block_writer.proofs.stop_times.push_by.Goals as goal

pub returns : goal.returns
returns c =
    written-as c.push_moved.result c.args.records.now c.push_moved.new.records _ _
    (ap (λ offset. moved_row offset c.args.arrival c.args.departure c.args.row.now) (to_z-of_z w8 c.args.offset c.ranges.offset)
    ∙ shifted-row c.args.offset c.args.arrival c.args.departure c.args.row.now (λ same. c.if-offset-eq0.false (ap (of_z w8) same)))
    c.push_moved.ensures
