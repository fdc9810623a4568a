use Rattle.std.proofs.Common.{refl}
use Rattle.desk_feed.specs.Numbers.{numbers_line}
use Rattle.trip_model.specs.Order.{by_departure}
use Rattle.trip_model.specs.Links.{block_from}
use Rattle.trip_model.specs.Maximum.{first_maximum, first_maximum_up_to}
use Rattle.std.specs.Fmt.{digits}
use Rattle.examples_computed.proofs.plans.a_line.Goals as goal

pub returns : goal.returns
unfolding numbers_line by_departure block_from first_maximum first_maximum_up_to digits
returns c = refl
