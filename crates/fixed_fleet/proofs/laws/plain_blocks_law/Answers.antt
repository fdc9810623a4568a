use Rattle.fixed_fleet.proofs.PlainBlocks.{plain_blocks, maxima-le-blocks, IsFewest-fifo}
use Rattle.fixed_fleet.proofs.laws.plain_blocks_law.Goals as goal

pub returns-clause-theorem : goal.returns-clause-theorem
returns-clause-theorem c = plain_blocks

pub returns-clause-least : goal.returns-clause-least
returns-clause-least c = maxima-le-blocks

pub returns-clause-reached : goal.returns-clause-reached
returns-clause-reached c = IsFewest-fifo
