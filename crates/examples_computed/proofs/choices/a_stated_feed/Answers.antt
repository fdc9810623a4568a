use Rattle.std.proofs.Common.{refl}
use Rattle.trip_model.specs.Order.{by_departure}
use Rattle.examples_computed.proofs.choices.a_stated_feed.Goals as goal

pub returns : goal.returns
unfolding by_departure
returns c = record { nexts = refl; lines = refl }
