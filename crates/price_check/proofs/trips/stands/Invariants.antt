use Rattle.std.proofs.Common.{◌≡◌, ℕ, ◌<◌, false, nat_eq, map, Some}
use Rattle.std.specs.Option.{option_eq}
use Rattle.price_check.specs.Claim.{named}
use Rattle.price_check.proofs.trips.stands.Given as goal

abbrev pub invariant-loop-row : goal.invariant-loop-row
invariant-loop-row g l = (k : ℕ) → k < l.row-index → option_eq nat_eq (named (map g.R.Record.slot_of l.rows) k) (Some l.slot) ≡ false
