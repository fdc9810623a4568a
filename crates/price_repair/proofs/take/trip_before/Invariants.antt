use Rattle.std.proofs.Common.{◌≡◌, ℕ, ◌<◌, false}
use Rattle.trip_model.specs.Links.{next_of, leads_to}
use Rattle.price_repair.proofs.take.trip_before.Given as goal

abbrev pub invariant-loop-before : goal.invariant-loop-before
invariant-loop-before l = (k : ℕ) → k < l.before → leads_to l.slot (next_of l.links k) ≡ false
