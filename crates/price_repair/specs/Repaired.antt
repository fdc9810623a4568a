-- The plans that repairs find, computed from the plan before them.
use Rattle.std.specs.Prelude.{ℕ, length, Option, None, Some}
use Rattle.assignment_model.specs.Prices.{Plan}
use Rattle.pair_graph.specs.Pairs.{PairsView}
use Rattle.price_assign.specs.Found.{found_left, found_right}
use Rattle.price_assign.specs.Plans.{with_slots}
use Rattle.price_repair.specs.Cut.{plan_without}
use Rattle.trip_model.specs.Links.{next_of, before_of}

-- the plan with the leaving side of a, where there is one
abbrev pub left_added : PairsView → Option ℕ → Option ℕ → Plan → Plan
left_added pairs None b plan = plan
left_added pairs (Some a) b plan = found_left pairs a b plan

-- the plan with the entering side of b, where there is one
abbrev pub right_added : PairsView → Option ℕ → Plan → Plan
right_added pairs None plan = plan
right_added pairs (Some b) plan = found_right pairs b None plan

-- rule: which of several least plans
-- the plan after the trip of a slot was taken: without it, then with the sides of the trip before it and of its next one
unfoldable pub plan_taken : PairsView → ℕ → Plan → Plan
plan_taken pairs slot plan =
    right_added pairs (next_of plan.next slot)
    (left_added pairs (before_of plan.next slot) (next_of plan.next slot) (plan_without plan slot))

-- rule: which of several least plans
-- the plan after a trip was added in a slot: with its leaving side, and then with its entering side
unfoldable pub plan_added : PairsView → ℕ → Plan → Plan
plan_added pairs slot plan = found_right pairs slot None (found_left pairs slot (Some slot) (with_slots plan (length pairs.moves)))

-- rule: which of several least plans
-- the plan after the trip of a slot became another one: it is taken, and then added. The pairs are those without either trip, and
-- those with the one that is there now
unfoldable pub plan_replaced : PairsView → PairsView → ℕ → Plan → Plan
plan_replaced without pairs slot plan = plan_added pairs slot (plan_taken without slot plan)
