use Rattle.block_writer.proofs.ReadAgain.{stop-times-back}
use Rattle.block_writer.proofs.laws.stop_times_law.Goals as goal

pub returns : goal.returns
returns c = stop-times-back
