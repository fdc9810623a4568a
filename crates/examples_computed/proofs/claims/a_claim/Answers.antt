use Rattle.std.proofs.Common.{refl}
use Rattle.std.specs.Char.{encode_utf8}
use Rattle.std.specs.Str.{chars, is_utf8}
use Rattle.csv.specs.Machine.{next_record}
use Rattle.csv.specs.Reading.{strip_bom, records_from}
use Rattle.claim_files.specs.Blocks as blocks
use Rattle.claim_files.specs.Blocks.{trip_in, with_trip}
use Rattle.claim_files.specs.Prices as prices
use Rattle.claim_files.specs.Prices.{prices_in, with_prices}
use Rattle.examples_computed.proofs.claims.a_claim.Goals as goal

pub returns : goal.returns
unfolding encode_utf8 chars is_utf8 next_record strip_bom records_from blocks.columns_in trip_in with_trip prices.columns_in prices_in with_prices
returns c = refl
