use Rattle.std.proofs.Common.{ℕ, suc}
use Rattle.std.specs.Prelude.{ℤ}
use Rattle.dh_chains.specs.Chains.{places_with}
use Rattle.dh_chains.specs.Ends.{EndsFrom, PassedArriveFrom}
use Rattle.dh_chains.proofs.ends.lower_from.Given as goal

abbrev pub invariant-loop-to : goal.invariant-loop-to
invariant-loop-to l = (d : ℕ → ℕ → ℤ) (most : ℕ) → EndsFrom (places_with d l.matrix) most l.from l.leaves
    → PassedArriveFrom (places_with d l.matrix) (suc most) l.initial.minutes l.from 0
    → PassedArriveFrom (places_with d l.matrix) (suc most) l.minutes l.from l.to
