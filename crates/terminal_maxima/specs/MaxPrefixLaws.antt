-- Greatest prefix sums keep the laws of a summary.
use Rattle.std.proofs.Common.{◌≡◌, ℕ, ◌+◌, ap, ◌∙◌, arith}
use Rattle.std.proofs.lemmas.Int.{ints, clamps}
use Rattle.terminal_maxima.specs.declared.max_prefix.MaxPrefix.{MaxPrefix}
use Rattle.terminal_maxima.specs.MaxPrefix.{SumsLeaves, no_leaf, both}
use Rattle.terminal_maxima.specs.Summary.{SummaryLaws}

-- two summaries are equal where both numbers are
pub same_prefix : (x y : MaxPrefix) → x.sum ≡ y.sum → x.high ≡ y.high → x ≡ y
same_prefix x y sums highs =
    ap (λ (s : _). let p : MaxPrefix = record { sum = s; high = x.high } in p) sums
    ∙ ap (λ (h : _). let p : MaxPrefix = record { sum = y.sum; high = h } in p) highs

sums_join : (x y : MaxPrefix) (m n : ℕ) → SumsLeaves x m → SumsLeaves y n → SumsLeaves (both x y) (m + n)
sums_join x y m n left right = record {
  above = omega (arith, ints);
  below = omega (arith, ints, clamps);
  from_zero = omega (arith, ints, clamps);
  high_below = omega (arith, ints, clamps);
  of_one = λ few. omega (arith, ints, clamps);
}

assoc : (x y z : MaxPrefix) → both (both x y) z ≡ both x (both y z)
assoc x y z = same_prefix _ _ (omega (arith, ints)) (omega (arith, ints, clamps))

unit_left : (x : MaxPrefix) (n : ℕ) → SumsLeaves x n → both no_leaf x ≡ x
unit_left x n sums = same_prefix _ _ (omega (arith, ints)) (omega (arith, ints, clamps))

unit_right : (x : MaxPrefix) (n : ℕ) → SumsLeaves x n → both x no_leaf ≡ x
unit_right x n sums = same_prefix _ _ (omega (arith, ints)) (omega (arith, ints, clamps))

sums_unit : (n : ℕ) → SumsLeaves no_leaf n
sums_unit n = record {
  above = omega (arith, ints);
  below = omega (arith, ints);
  from_zero = omega (arith, ints);
  high_below = omega (arith, ints);
  of_one = λ few. omega (arith, ints, clamps);
}

pub max_prefix_laws : SummaryLaws SumsLeaves no_leaf both
max_prefix_laws = record {
  sums_none = sums_unit 0;
  sums_one = sums_unit 1;
  sums_join = λ x y m n left right within. sums_join x y m n left right;
  assoc = λ x y z k m n a b c within. assoc x y z;
  unit_left = λ x n sums within. unit_left x n sums;
  unit_right = λ x n sums within. unit_right x n sums;
}
