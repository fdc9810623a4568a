use Rattle.block_writer.proofs.TextsTold.{none-bad}
use Rattle.block_writer.proofs.texts.judge_texts.Goals as goal

pub returns-in-None-clause-texts : goal.returns-in-None-clause-texts
returns-in-None-clause-texts c = none-bad c.args.row.now c.bad_field.result c.in-None.is c.bad_field.ensures
