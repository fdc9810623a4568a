use Rattle.block_writer.proofs.BlockNamed.{block-named}
use Rattle.block_writer.proofs.laws.block_law.Goals as goal

pub returns : goal.returns
returns c = block-named
