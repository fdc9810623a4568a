use Rattle.std.proofs.Common.{refl}
use Rattle.std.specs.Fmt.{digits}
use Rattle.block_names.specs.Names.{names_of}
use Rattle.examples_computed.proofs.names.names_of_blocks.Goals as goal

pub returns : goal.returns
unfolding digits names_of
returns c = record { stated = refl; numbered = refl }
