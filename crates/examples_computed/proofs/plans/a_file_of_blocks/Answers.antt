use Rattle.std.proofs.Common.{refl}
use Rattle.block_build.specs.Files.{blocks_text, block_records}
use Rattle.block_names.specs.Names.{names_of}
use Rattle.trip_model.specs.Order.{by_departure}
use Rattle.trip_model.specs.Links.{block_from}
use Rattle.std.specs.Fmt.{digits}
use Rattle.csv.specs.Writing.{escaped, fields_text, is_blank}
use Rattle.examples_computed.proofs.plans.a_file_of_blocks.Goals as goal

pub returns : goal.returns
unfolding blocks_text block_records names_of by_departure block_from digits escaped fields_text is_blank
returns c = refl
