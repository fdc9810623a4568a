-- The least plan that is liked best, computed from the pairs, from likings and from a least plan.
use Rattle.std.specs.Prelude.{ℕ, ◌+◌, ◌-◌, length, Option, Some, if◌then◌else◌}
use Rattle.assignment_model.specs.Choice.{worths}
use Rattle.assignment_model.specs.Prices.{Plan}
use Rattle.pair_graph.specs.Pairs.{PairsView, pairs_network}
use Rattle.pair_search.specs.Arranged.{departing, bare}
use Rattle.pair_search.specs.Determined.{found_each}
use Rattle.plan_choice.specs.Likings.{LikingsView, likes_nothing, liking}
use Rattle.trip_model.specs.Plain.{move_at}
use Rattle.trip_model.specs.declared.trip.Move.{Move}

-- the minutes that a vehicle waits between two moves, after a walk of so many minutes; 0 where a move is missing or no walk fits
abbrev pub waited : Option Move → Option Move → Option ℕ → ℕ
waited (Some a) (Some b) (Some minutes) = b.leaves - (a.arrives + minutes)
waited _ _ _ = 0

-- the minutes that a vehicle waits between two trips: from the end of the walk until the second departs. 0 where they do not fit
abbrev pub wait_between : PairsView → ℕ → ℕ → ℕ
wait_between pairs i j = waited (move_at pairs.moves i) (move_at pairs.moves j) ((pairs_network pairs).empty i j)

-- how it is liked that the trip of j is next after that of i
abbrev pub pair_liking : PairsView → LikingsView → ℕ → ℕ → ℕ
pair_liking pairs likings i j = liking likings i j (wait_between pairs i j)

-- links that are worth most, of the pairs that are tight by the prices of a plan: one row after the other, the last departure first
abbrev pub links_worth_most : PairsView → LikingsView → Plan → Plan
links_worth_most pairs likings plan =
    found_each (worths (pairs_network pairs) plan (pair_liking pairs likings)) (departing pairs) (bare (length pairs.moves))

-- rule: which least plan is chosen
-- the least plan that is liked best, from one that is least. Prices stay. Where nothing is liked, that plan itself
unfoldable pub chosen_plan : PairsView → LikingsView → Plan → Plan
chosen_plan pairs likings plan =
    if likes_nothing likings then plan else record plan { next = (links_worth_most pairs likings plan).next }
