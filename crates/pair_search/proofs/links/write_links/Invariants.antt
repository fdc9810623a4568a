use Rattle.std.proofs.Common.{◌≡◌, ℕ, ◌<◌, length}
use Rattle.trip_model.specs.Links.{next_of}
use Rattle.pair_search.proofs.links.write_links.Given as goal

abbrev pub invariant-loop-slot : goal.invariant-loop-slot
invariant-loop-slot l = record {
  slots : length l.links ≡ length l.initial.links;
  written : (i : ℕ) → i < l.slot → next_of l.links i ≡ next_of l.next i;
}
