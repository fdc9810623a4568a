use Rattle.std.proofs.Common.{refl}
use Rattle.std.specs.Fmt.{digits}
use Rattle.trip_model.specs.Links.{block_from}
use Rattle.trip_model.specs.Maximum.{first_maximum, first_maximum_up_to}
use Rattle.trip_model.specs.Order.{by_departure}
use Rattle.pair_search.specs.Arranged.{arranged, departing, found_by, all_found}
use Rattle.pair_search.specs.Determined.{visited, grown, linked_back, found}
use Rattle.pair_search.specs.Side.{side_weight}
use Rattle.plan_choice.specs.Chosen.{chosen_plan}
use Rattle.price_assign.specs.Found.{found_left, found_right, solved}
use Rattle.price_repair.specs.Repaired.{plan_taken, plan_added, plan_replaced}
use Rattle.desk_feed.specs.Numbers.{numbers_line}
use Rattle.desk_feed.specs.Script.{first_records, gathered, reason_text, refusal_line}
use Rattle.feed_desk.specs.Answers.{answers_by}
use Rattle.feed_desk.specs.Plans.{plans_at}
use Rattle.blocks_command.specs.Answers.{answer_text}
use Rattle.examples_computed.proofs.edits.four_answers.Goals as goal

pub returns : goal.returns
unfolding gathered digits block_from first_maximum first_maximum_up_to by_departure arranged departing found_by all_found visited grown linked_back found side_weight found_left found_right chosen_plan solved plan_taken plan_added plan_replaced numbers_line first_records reason_text refusal_line answers_by plans_at answer_text
returns c = refl
