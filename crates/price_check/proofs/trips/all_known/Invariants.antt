use Rattle.std.proofs.Common.{ℕ, ◌<◌, map}
use Rattle.std.specs.Prelude.{IsSome}
use Rattle.price_check.specs.Claim.{named}
use Rattle.price_check.proofs.trips.all_known.Given as goal

abbrev pub invariant-loop-at : goal.invariant-loop-at
invariant-loop-at g l = (k : ℕ) → k < l.at → IsSome (named (map g.R.Record.slot_of l.rows) k)
