use Rattle.std.proofs.Common.{◌≡◌, ℕ, ◌<◌}
use Rattle.trip_model.specs.Links.{next_of}
use Rattle.pair_search.proofs.links.read_links.Given as goal

abbrev pub invariant-loop-slot : goal.invariant-loop-slot
invariant-loop-slot l = (i : ℕ) → i < l.slot → next_of l.next i ≡ next_of l.links i
