-- The plans that are found, computed from the pairs.
use Rattle.std.specs.Prelude.{ℕ, true, false, Option, None}
use Rattle.assignment_model.specs.Prices.{Plan}
use Rattle.pair_graph.specs.Pairs.{PairsView}
use Rattle.pair_search.specs.Arranged.{arranged, departing, found_by, all_found, turned_plan, weight_from}

-- the plan with the leaving side of a, where b is left out
unfoldable pub found_left : PairsView → ℕ → Option ℕ → Plan → Plan
found_left pairs a b plan = found_by (arranged pairs false b) (weight_from pairs false b) a plan

-- the plan with the entering side of b, where a is left out
unfoldable pub found_right : PairsView → ℕ → Option ℕ → Plan → Plan
found_right pairs b a plan = turned_plan (found_by (arranged pairs true a) (weight_from pairs true a) b (turned_plan plan))

-- rule: which of several least plans
-- the plan for pairs: one leaving side after the other, the last departure first
unfoldable pub solved : PairsView → Plan
solved pairs = all_found (arranged pairs false None) (weight_from pairs false None) (departing pairs)
