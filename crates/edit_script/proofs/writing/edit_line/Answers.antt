use Rattle.edit_script.proofs.LinesWritten.{two-texts, six-texts}
use Rattle.edit_script.proofs.writing.edit_line.Goals as goal

pub record_line-requires : goal.record_line-requires
record_line-requires c = two-texts c.as_bytes.result.now c.as_bytes-in-Cancel.result.now c.as_bytes.ensures.utf8
    c.as_bytes-in-Cancel.ensures.utf8

pub record_line-requires-in-Restore : goal.record_line-requires-in-Restore
record_line-requires-in-Restore c =
    two-texts c.as_bytes-in-Restore.result.now c.as_bytes-in-Restore-2.result.now c.as_bytes-in-Restore.ensures.utf8
    c.as_bytes-in-Restore-2.ensures.utf8

pub record_line-requires-in-Extra : goal.record_line-requires-in-Extra
record_line-requires-in-Extra c =
    six-texts c.as_bytes-in-Extra.result.now c.as_bytes-in-Extra-2.result.now c.as_bytes-in-Extra-3.result.now
    c.as_bytes-in-Extra-4.result.now c.as_bytes-in-Extra-5.result.now c.as_bytes-in-Extra-6.result.now c.as_bytes-in-Extra.ensures.utf8
    c.as_bytes-in-Extra-2.ensures.utf8 c.as_bytes-in-Extra-3.ensures.utf8 c.as_bytes-in-Extra-4.ensures.utf8
    c.as_bytes-in-Extra-5.ensures.utf8 c.as_bytes-in-Extra-6.ensures.utf8
