use Rattle.std.proofs.Common.{refl}
use Rattle.trip_model.specs.Order.{by_departure}
use Rattle.pair_search.specs.Arranged.{arranged, departing, found_by, all_found}
use Rattle.pair_search.specs.Determined.{visited, grown, linked_back, found}
use Rattle.pair_search.specs.Side.{side_weight}
use Rattle.plan_choice.specs.Chosen.{chosen_plan}
use Rattle.price_assign.specs.Found.{solved}
use Rattle.desk_feed.specs.Script.{gathered}
use Rattle.feed_desk.specs.Plans.{plans_at}
use Rattle.examples_computed.proofs.choices.a_choice.Goals as goal

pub returns : goal.returns
unfolding gathered plans_at chosen_plan solved arranged departing by_departure found_by all_found visited grown linked_back found side_weight
returns c = record { stated = refl; lines = refl }
