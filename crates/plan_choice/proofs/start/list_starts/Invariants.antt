use Rattle.std.proofs.Common.{◌≡◌, ℕ, ◌<◌, get_or, length}
use Rattle.plan_choice.specs.Listing.{start_at}
use Rattle.plan_choice.specs.declared.start.Start.{Start}
use Rattle.plan_choice.proofs.start.list_starts.Given as goal

abbrev pub invariant-loop-slot : goal.invariant-loop-slot
invariant-loop-slot l = record {
  count : length l.starts.items ≡ l.slot;
  each : (s : ℕ) (d : Start) → s < l.slot → get_or l.starts.items s d ≡ start_at l.pairs s;
}
