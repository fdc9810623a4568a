use Rattle.std.proofs.Common.{◌≡◌, ℕ, ◌<◌}
use Rattle.pair_search.specs.Search.{at}
use Rattle.pair_search.specs.Side.{side_slot}
use Rattle.pair_search.proofs.rename.price_places.Given as goal

abbrev pub invariant-loop-place : goal.invariant-loop-place
invariant-loop-place l = (k : ℕ) → k < l.place → at l.entering k ≡ at l.enter (side_slot l.side k)
