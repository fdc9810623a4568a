use Rattle.block_build.proofs.FilesWritten.{stays-text}
use Rattle.block_build.proofs.files.push_record.Goals as goal

pub returns-clause-text : goal.returns-clause-text
returns-clause-text c =
    stays-text c.push.result c.args.records.now c.push.new.self c.as_bytes.result.now c.as_bytes-2.result.now c.as_bytes-3.result.now
    c.written_text_law.ensures
    c.as_bytes.ensures.utf8 c.as_bytes-2.ensures.utf8 c.as_bytes-3.ensures.utf8 c.push.ensures.pushed
