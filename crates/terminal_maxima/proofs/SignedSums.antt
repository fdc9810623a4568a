-- Sums and tests of 32 bits, read as integers.
use Rattle.std.proofs.Common.{◌≡◌, true, false, ℤ, ◌+ℤ◌, ◌≤ℤ◌, ◌<ℤ◌, FitsSigned, w32, to_z, of_z, sym, ap, ◌∙◌, subst, arith}
use Rattle.std.proofs.lemmas.Int.{ints, to_z-of_z}
use lib.Signed.{lt_z, le_z}

-- the sum of a number and one that was read
pub sum_read : (s x : ℤ) → FitsSigned w32 x → FitsSigned w32 (s +ℤ x) → to_z w32 (of_z w32 (s +ℤ to_z w32 (of_z w32 x))) ≡ s +ℤ x
sum_read s x read fits = ap (λ (y : ℤ). to_z w32 (of_z w32 (s +ℤ y))) (to_z-of_z w32 x read) ∙ to_z-of_z w32 (s +ℤ x) fits

-- it fits
pub sum_fits : (s x : ℤ) → FitsSigned w32 x → FitsSigned w32 (s +ℤ x) → FitsSigned w32 (s +ℤ to_z w32 (of_z w32 x))
sum_fits s x read fits = subst (λ (y : ℤ). FitsSigned w32 (s +ℤ y)) (sym (to_z-of_z w32 x read)) fits

pub below_by_test : (a b : ℤ) → lt_z a b ≡ true → a <ℤ b
below_by_test a b test = grind (arith, ints)

pub not_below_by_test : (a b : ℤ) → lt_z a b ≡ false → b ≤ℤ a
not_below_by_test a b test = grind (arith, ints)

pub within_by_test : (a b : ℤ) → le_z a b ≡ true → a ≤ℤ b
within_by_test a b test = grind (arith, ints)

pub above_by_test : (a b : ℤ) → le_z a b ≡ false → b <ℤ a
above_by_test a b test = grind (arith, ints)
