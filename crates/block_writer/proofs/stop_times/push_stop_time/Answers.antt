use Rattle.std.proofs.Common.{ap, ◌∙◌, rules}
use mir.Syntax.{w8}
use mir.Val.{SFits}
use Rattle.std.proofs.lemmas.Int.{to_z-of_z}
use Rattle.block_writer.specs.StopTimes.{moved_by}
use Rattle.block_writer.proofs.FieldsWritten.{written-as}
use Rattle.block_writer.proofs.stop_times.push_stop_time.Goals as goal

pub returns : goal.returns
returns c =
    let row = c.args.row.now in
    let columns = c.args.columns.now in
    let fits : SFits w8 c.offset_for-offset.result = search rules in
    written-as c.push_by.result c.args.records.now c.push_by.new.records _ _
    (ap (λ offset. moved_by offset columns.arrival columns.departure row)
    (to_z-of_z w8 c.offset_for-offset.result fits ∙ c.offset_for-offset.ensures)) c.push_by.ensures
