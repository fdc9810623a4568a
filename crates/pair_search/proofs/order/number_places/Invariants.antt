use Rattle.std.proofs.Common.{◌≡◌, ℕ, ◌<◌, length}
use Rattle.pair_search.specs.Order.{slot_at, place_of}
use Rattle.pair_search.proofs.order.number_places.Given as goal

abbrev pub invariant-loop-place : goal.invariant-loop-place
invariant-loop-place l = (k : ℕ) → k < l.place
    → place_of (length l.initial.places) l.places (slot_at (length l.initial.places) l.columns k) ≡ k
