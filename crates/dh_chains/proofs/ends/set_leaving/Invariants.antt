use Rattle.std.proofs.Common.{◌≡◌, ℕ, length}
use Rattle.deadhead_matrix.specs.Matrix.{MatrixView}
use Rattle.dh_chains.specs.Chains.{places_of}
use Rattle.dh_chains.specs.Ends.{AreEarliestBelow, ArriveFrom}
use Rattle.dh_chains.proofs.ends.set_leaving.Given as goal

abbrev pub invariant-loop-place : goal.invariant-loop-place
invariant-loop-place l = (matrix : MatrixView) (most : ℕ) → length l.deficits ≡ length matrix.walks
    → ArriveFrom (places_of l.deficits matrix) most l.initial.minutes
    → AreEarliestBelow (places_of l.deficits matrix) most l.minutes l.place
