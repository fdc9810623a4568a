use Rattle.std.proofs.Common.{◌≡◌, ℕ, ◌<◌}
use Rattle.std.specs.Option.{option_map}
use Rattle.trip_model.specs.Links.{next_of}
use Rattle.pair_search.specs.Side.{side_place}
use Rattle.pair_search.proofs.rename.link_places.Given as goal

abbrev pub invariant-loop-row : goal.invariant-loop-row
invariant-loop-row l = (i : ℕ) → i < l.row → next_of l.placed i ≡ option_map (side_place l.side) (next_of l.next i)
