use Rattle.block_writer.proofs.ReadAgain.{trips-back}
use Rattle.block_writer.proofs.laws.trips_law.Goals as goal

pub returns : goal.returns
returns c = trips-back
