use Rattle.std.proofs.Common.{ℕ, suc}
use Rattle.std.specs.Prelude.{ℤ}
use Rattle.dh_chains.specs.Chains.{places_with}
use Rattle.dh_chains.specs.Ends.{AreEarliest, PassedArriveFrom}
use Rattle.dh_chains.proofs.ends.arrivals.Given as goal

abbrev pub invariant-loop-from : goal.invariant-loop-from
invariant-loop-from l = (d : ℕ → ℕ → ℤ) (most : ℕ) → AreEarliest (places_with d l.matrix) most l.later
    → PassedArriveFrom (places_with d l.matrix) (suc most) l.minutes l.from 0
