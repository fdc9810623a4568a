use Rattle.std.proofs.Common.{◌≡◌, ℕ, ◌<◌}
use Rattle.std.specs.Option.{option_map}
use Rattle.trip_model.specs.Links.{next_of}
use Rattle.pair_search.specs.Side.{side_slot}
use Rattle.pair_search.proofs.rename.link_columns.Given as goal

abbrev pub invariant-loop-row : goal.invariant-loop-row
invariant-loop-row l = (i : ℕ) → i < l.row → next_of l.next i ≡ option_map (side_slot l.side) (next_of l.placed i)
