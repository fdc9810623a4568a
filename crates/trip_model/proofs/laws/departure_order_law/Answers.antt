use Rattle.trip_model.proofs.OrderLemmas.{StandsOnce-by_departure, RiseBy-by_departure, TiesRise-by_departure}
use Rattle.trip_model.proofs.laws.departure_order_law.Goals as goal

pub returns-clause-stands : goal.returns-clause-stands
returns-clause-stands c = StandsOnce-by_departure

pub returns-clause-rise : goal.returns-clause-rise
returns-clause-rise c = RiseBy-by_departure

pub returns-clause-ties : goal.returns-clause-ties
returns-clause-ties c = TiesRise-by_departure
