-- Searches over columns in their order, and from the entering side.
use Rattle.std.specs.Prelude.{◌≡◌, ℕ, suc, ◌+◌, ◌-◌, ◌*◌, ◌/◌, ◌%◌, ◌<◌, ◌≤◌, ◌⊎◌, ◌==◌, Bool, false, List, map, position, unwrap_or}
use Rattle.std.specs.Prelude.{replicate, length, slice_index_or, Option, None, Some, if◌then◌else◌}
use Rattle.std.specs.List.{range_with_len}
use Rattle.std.specs.Option.{option_map}
use Rattle.assignment_model.specs.Prices.{Plan, price, weight}
use Rattle.pair_graph.specs.Pairs.{PairsView, pairs_network}
use Rattle.trip_model.specs.Links.{before_of, leads_to}
use Rattle.trip_model.specs.Order.{by_key}
use Rattle.pair_search.specs.Determined.{found, found_each}
use Rattle.pair_search.specs.Order.{no_column}
use Rattle.pair_search.specs.Side.{pairs_minute, pairs_post}
use Rattle.pair_search.specs.declared.order.Column.{Column}

-- columns without a post come first
abbrev pub post_key : Option ℕ → ℕ
post_key None = 0
post_key (Some post) = suc post

-- one number by which columns stand in order by post, those of one post by minute, and those of one minute by slot
abbrev pub column_rank : Option ℕ → ℕ → ℕ → ℕ
column_rank post minute slot = post_key post * 4294967296 + minute * 65536 + slot

-- a number that may be the rank of a column: no post has a greater number than 65,535
abbrev pub IsRank : ℕ → Type 0
IsRank rank = rank / 4294967296 ≤ 65536

-- the post of a key
abbrev pub post_of_key : ℕ → Option ℕ
post_of_key key = if key == 0 then None else Some (key - 1)

-- the column that has a rank
abbrev pub column_of : ℕ → Column
column_of rank = record { post = post_of_key (rank / 4294967296); minute = rank / 65536 % 65536; slot = rank % 65536 }

-- rule: ties between least plans
-- the slots of columns by post, those of one post by minute, and those of one minute by number
unfoldable pub arranged : PairsView → Bool → Option ℕ → List ℕ
arranged pairs turned without =
    by_key (λ j. post_key (pairs_post pairs turned without j)) (by_key (pairs_minute pairs turned) (range_with_len 0 (length pairs.moves)))

-- the slots by departure, and those of one minute by number
unfoldable pub departing : PairsView → List ℕ
departing pairs = by_key (pairs_minute pairs false) (range_with_len 0 (length pairs.moves))

-- the slots of columns
abbrev pub slots_of : List Column → List ℕ
slots_of columns = map (λ (c : Column). c.slot) columns

-- the slot at a place of an order; none past its end
abbrev pub slot_in : List ℕ → ℕ → ℕ
slot_in order k = slice_index_or order k (length order)

-- the place of a slot in an order; none where it lacks it
abbrev pub place_in : List ℕ → ℕ → ℕ
place_in order j = unwrap_or (position (λ s. s == j) order) (length order)

-- a plan whose columns are named by their places
abbrev pub by_places : List ℕ → Plan → Plan
by_places order plan = record plan { next = map (option_map (place_in order)) plan.next; enter = map (price plan.enter) order }

-- and one whose columns are named by their slots again
abbrev pub by_slots : List ℕ → Plan → Plan
by_slots order plan = record plan {
  next = map (option_map (slot_in order)) plan.next;
  enter = map (λ j. price plan.enter (place_in order j)) (range_with_len 0 (length order));
}

-- the plan that a search finds over columns in an order
unfoldable pub found_by : List ℕ → (ℕ → ℕ → Option ℕ) → ℕ → Plan → Plan
found_by order w a plan = by_slots order (found (λ i k. w i (slot_in order k)) a (by_places order plan))

-- so many slots without links and prices
abbrev pub bare : ℕ → Plan
bare slots = record { next = replicate slots None; leave = replicate slots 0; enter = replicate slots 0 }

-- the plan that searches find from one row after the other, the last first, where nothing was linked
unfoldable pub all_found : List ℕ → (ℕ → ℕ → Option ℕ) → List ℕ → Plan
all_found order w rows = by_slots order (found_each (λ i k. w i (slot_in order k)) rows (bare (length order)))

-- the plan seen from the other side: links lead to what is before, and prices change places
abbrev pub turned_plan : Plan → Plan
turned_plan plan = record { next = map (before_of plan.next) (range_with_len 0 (length plan.next)); leave = plan.enter; enter = plan.leave }

-- what the pairs of trips weigh, seen from a side. One column may be left out
abbrev pub weight_from : PairsView → Bool → Option ℕ → ℕ → ℕ → Option ℕ
weight_from pairs turned without i j =
    if leads_to j without then None else (if turned then weight (pairs_network pairs) j i else weight (pairs_network pairs) i j)

-- a column comes before another by post, of one post by minute, and of one minute by slot
abbrev pub StandsBefore : Column → Column → Type 0
StandsBefore c d = (post_key c.post < post_key d.post)
    ⊎ ((post_key c.post ≡ post_key d.post) × ((c.minute < d.minute) ⊎ ((c.minute ≡ d.minute) × (c.slot < d.slot))))

-- each column comes before those after it
abbrev pub AreInOrder : ℕ → List Column → Type 0
AreInOrder n columns = (h k : ℕ) → h < k → k < n
    → StandsBefore (slice_index_or columns h (no_column n)) (slice_index_or columns k (no_column n))
