use Rattle.edit_script.proofs.LinesWritten.{three-texts}
use Rattle.edit_script.proofs.writing.shift_line.Goals as goal

pub record_line-requires : goal.record_line-requires
record_line-requires c = three-texts c.as_bytes.result.now c.as_bytes-2.result.now c.as_bytes-3.result.now c.as_bytes.ensures.utf8
    c.as_bytes-2.ensures.utf8 c.as_bytes-3.ensures.utf8
