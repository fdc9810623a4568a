use Rattle.std.proofs.Common.{sym}
use Rattle.block_writer.proofs.TextsTold.{no-bad}
use Rattle.block_writer.proofs.texts.bad_field.Goals as goal

pub returns-then-is_ascii : goal.returns-then-is_ascii
returns-then-is_ascii c = sym (no-bad c.args.row.now (c.is_ascii.ensures c.if-is_ascii.true))
