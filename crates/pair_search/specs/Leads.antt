-- Where the vehicles of rows stand, and which rows bring nothing nearer.
use Rattle.std.specs.Prelude.{◌≡◌, ℕ, ◌+◌, ◌-◌, ◌<◌, ◌≤◌, Bool, false, List, slice_index_or, Some, if◌then◌else◌}
use Rattle.trip_model.specs.Plain.{move_at}
use Rattle.trip_model.specs.declared.limits.TheConstants.{LAST_MINUTE}
use Rattle.trip_model.specs.declared.trip.Move.{Move}
use Rattle.pair_search.specs.declared.leads.Lead.{Lead}
use Rattle.pair_search.specs.declared.leads.Stand.{Stand}
use Rattle.pair_graph.specs.Pairs.{is_ruled}
use Rattle.pair_search.specs.Search.{at, is_done}
use Rattle.pair_search.specs.Side.{SideView, side_slots, place_weight}

-- where the vehicle of a row stands that makes a move, and from which minute on. Seen backward, minutes count back from the last
abbrev pub stand_of : Bool → Move → Stand
stand_of turned m =
    if turned then record { post = m.from; ready = LAST_MINUTE - m.leaves } else record { post = m.to; ready = m.arrives }

-- the lead of a post; past the last one that of a post without rows
abbrev pub lead_at : List Lead → ℕ → Lead
lead_at leads post = slice_index_or leads post (record { ready = 65535; start = 0 })

-- A row that no rule names, and that stands at a post no sooner than its lead, is no better off: no column is nearer by it than by
-- the lead's start.
abbrev pub AreLed : SideView → List ℕ → List Bool → List ℕ → List Lead → Type 0
AreLed side enter done dist leads = (i j k : ℕ) (m : Move) → is_ruled side.pairs side.turned i ≡ false → move_at side.pairs.moves i ≡ Some m
    → (lead_at leads (stand_of side.turned m).post).ready ≤ (stand_of side.turned m).ready
    → j < side_slots side → is_done done j ≡ false → place_weight side i j ≡ Some k
    → at dist j + k ≤ (lead_at leads (stand_of side.turned m).post).start + at enter j
