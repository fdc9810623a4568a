use Rattle.std.proofs.Common.{◌∷◌, []}
use Rattle.joined_deficits.proofs.BoardsWritten.{stays-text, seven-texts}
use Rattle.joined_deficits.proofs.boards.push_record.Goals as goal

pub returns-clause-text : goal.returns-clause-text
returns-clause-text c =
    stays-text c.push.result c.args.records.now c.push.new.self
    (c.as_bytes.result.now ∷ c.as_bytes-2.result.now ∷ c.as_bytes-3.result.now ∷ c.as_bytes-4.result.now ∷ c.as_bytes-5.result.now
    ∷ c.as_bytes-6.result.now ∷ c.as_bytes-7.result.now ∷ []) c.written_text_law.ensures
    (seven-texts c.as_bytes.result.now c.as_bytes-2.result.now c.as_bytes-3.result.now c.as_bytes-4.result.now c.as_bytes-5.result.now
    c.as_bytes-6.result.now c.as_bytes-7.result.now
    c.as_bytes.ensures.utf8 c.as_bytes-2.ensures.utf8 c.as_bytes-3.ensures.utf8 c.as_bytes-4.ensures.utf8 c.as_bytes-5.ensures.utf8
    c.as_bytes-6.ensures.utf8 c.as_bytes-7.ensures.utf8)
    c.push.ensures.pushed
