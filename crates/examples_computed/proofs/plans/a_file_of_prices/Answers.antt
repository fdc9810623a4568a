use Rattle.std.proofs.Common.{refl}
use Rattle.block_build.specs.Files.{prices_text, price_records}
use Rattle.std.specs.Fmt.{digits}
use Rattle.csv.specs.Writing.{escaped, fields_text, is_blank}
use Rattle.examples_computed.proofs.plans.a_file_of_prices.Goals as goal

pub returns : goal.returns
unfolding prices_text price_records digits escaped fields_text is_blank
returns c = refl
