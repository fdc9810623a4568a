-- How much preferences count: more than all behind them, and together no more than a link may be liked.
use Rattle.std.proofs.Common.{◌≡◌, ℕ, zero, suc, ◌+◌, ◌*◌, ◌≤◌, ◌^◌, ◌==◌, ◌&&◌, Bool, true, false, cond, not, List, [], ◌∷◌, refl}
use Rattle.std.proofs.Common.{sym, ap, subst, ◌∙◌}
use Rattle.std.proofs.Common.{arith, lit≤, mul_assoc}
use Rattle.std.proofs.lemmas.Bool.{and_parts, or_parts, eqb-true, ne_eqb}
use Rattle.std.proofs.lemmas.Nat.{mul-le}
use Rattle.trip_model.specs.declared.limits.TheConstants.{LAST_MINUTE}
use Rattle.assignment_model.specs.declared.limits.TheConstants.{MOST_LIKING}
use Rattle.desk_settings.specs.Prefer.{has, is_same, none_twice}
use Rattle.desk_settings.specs.declared.prefer.Preference.{Preference}
use Rattle.desk_settings.specs.declared.prefer.Preference.TheVariants.{Stated, Line, Waiting}
use Rattle.feed_likings.specs.Units.{range_of, ranges, unit_of}

pub not-true : (b : Bool) → not b ≡ true → b ≡ false
not-true false e = refl
not-true true e = absurd cc

-- what is none of them counts nothing
pub unit-none : (p : Preference) (order : List Preference) → has p order ≡ false → unit_of p order ≡ 0
unit-none p [] none = refl
unit-none p (q ∷ order) none =
    let parts = or_parts (is_same p q) (has p order) none in
    ap (λ b. cond b (ranges order) (unit_of p order)) parts.0 ∙ unit-none p order parts.1

-- the ranges of those that are there, multiplied
product : Bool → Bool → Bool → ℕ
product stated line waiting = cond stated 4096 1 * (cond line 4096 1 * cond waiting 33554432 1)

product-stated : (b c : Bool) → 4096 * product false b c ≡ product true b c
unfolding product
product-stated true true = refl
product-stated true false = refl
product-stated false true = refl
product-stated false false = refl

product-line : (a c : Bool) → 4096 * product a false c ≡ product a true c
unfolding product
product-line true true = refl
product-line true false = refl
product-line false true = refl
product-line false false = refl

product-waiting : (a b : Bool) → 33554432 * product a b false ≡ product a b true
unfolding product
product-waiting true true = refl
product-waiting true false = refl
product-waiting false true = refl
product-waiting false false = refl

product-few : (a b c : Bool) → product a b c ≤ 2 ^ 49
unfolding product
product-few true true true = lit≤ tt
product-few true true false = lit≤ tt
product-few true false true = lit≤ tt
product-few true false false = lit≤ tt
product-few false true true = lit≤ tt
product-few false true false = lit≤ tt
product-few false false true = lit≤ tt
product-few false false false = lit≤ tt

-- none is there twice, so the ranges are multiplied of those that are there
ranges-product : (order : List Preference) → none_twice order ≡ true
    → ranges order ≡ product (has Stated order) (has Line order) (has Waiting order)
unfolding product
ranges-product [] once = refl
ranges-product (Stated ∷ order) once =
    let parts = and_parts (not (has Stated order)) (none_twice order) once in
    ap (λ n. 4096 * n) (ranges-product order parts.1
    ∙ ap (λ b. product b (has Line order) (has Waiting order)) (not-true _ parts.0))
    ∙ product-stated (has Line order) (has Waiting order)
ranges-product (Line ∷ order) once =
    let parts = and_parts (not (has Line order)) (none_twice order) once in
    ap (λ n. 4096 * n) (ranges-product order parts.1
    ∙ ap (λ b. product (has Stated order) b (has Waiting order)) (not-true _ parts.0))
    ∙ product-line (has Stated order) (has Waiting order)
ranges-product (Waiting ∷ order) once =
    let parts = and_parts (not (has Waiting order)) (none_twice order) once in
    ap (λ n. 33554432 * n)
    (ranges-product order parts.1 ∙ ap (λ b. product (has Stated order) (has Line order) b) (not-true _ parts.0))
    ∙ product-waiting (has Stated order) (has Line order)

-- the ranges of preferences stay below 2^50
pub ranges-few : (order : List Preference) → none_twice order ≡ true → ranges order ≤ 2 ^ 49
ranges-few order once =
    subst (λ n. n ≤ 2 ^ 49) (sym (ranges-product order once)) (product-few (has Stated order) (has Line order) (has Waiting order))

-- what all count together, each once less than its range, is one less than the ranges
units-all : (order : List Preference) → none_twice order ≡ true
    → unit_of Stated order * 4095 + unit_of Line order * 4095 + unit_of Waiting order * 33554431 + 1 ≡ ranges order
units-all [] once = refl
units-all (Stated ∷ order) once =
    let parts = and_parts (not (has Stated order)) (none_twice order) once in
    let none = unit-none Stated order (not-true _ parts.0) in
    let rest = units-all order parts.1 in
    omega (arith, none, rest)
units-all (Line ∷ order) once =
    let parts = and_parts (not (has Line order)) (none_twice order) once in
    let none = unit-none Line order (not-true _ parts.0) in
    let rest = units-all order parts.1 in
    omega (arith, none, rest)
units-all (Waiting ∷ order) once =
    let parts = and_parts (not (has Waiting order)) (none_twice order) once in
    let none = unit-none Waiting order (not-true _ parts.0) in
    let rest = units-all order parts.1 in
    omega (arith, none, rest)

-- a link is liked no more than a link may be
pub units-few : (order : List Preference) → none_twice order ≡ true
    → unit_of Stated order + unit_of Line order + unit_of Waiting order * LAST_MINUTE ≤ MOST_LIKING
units-few order once = omega (arith, units-all order once, ranges-few order once)

range-positive : (p : Preference) → 1 ≤ range_of p
range-positive Stated = lit≤ tt
range-positive Line = lit≤ tt
range-positive Waiting = lit≤ tt

ranges-positive : (order : List Preference) → 1 ≤ ranges order
ranges-positive [] = lit≤ tt
ranges-positive (p ∷ order) = mul-le 1 1 (range_of p) (ranges order) (range-positive p) (ranges-positive order)

-- what a loop over preferences has counted of one, where these are left
abbrev pub IsCounted : Preference → List Preference → ℕ → List Preference → Type 0
IsCounted p order unit rest =
    (unit_of p order ≡ cond (unit == 0) (unit_of p rest) (unit * ranges rest)) × (unit * ranges rest ≤ 2 ^ 49)
    × (ranges rest ≤ 2 ^ 49)

pub counted-first : (p : Preference) (order : List Preference) → none_twice order ≡ true → IsCounted p order 0 order
counted-first p order once = (refl, omega arith, ranges-few order once)

-- the next number fits
pub counted-fits : (p q : Preference) (order : List Preference) (unit : ℕ) (rest : List Preference)
    → IsCounted p order unit (q ∷ rest)
    → unit * range_of q ≤ 2 ^ 49
counted-fits p q order unit rest so_far =
    let more = mul-le (unit * range_of q) 1 (unit * range_of q) (ranges rest) (omega arith) (ranges-positive rest) in
    let is = mul_assoc unit (range_of q) (ranges rest) in
    omega (arith, more, is, so_far.1)

apart : (n : ℕ) → 1 ≤ n → (n == 0) ≡ false
apart zero h = absurd (omega (arith, h))
apart (suc n) h = ne_eqb (suc n) 0 (λ e. absurd (omega (arith, e)))

positive : (n : ℕ) → (n == 0) ≡ false → 1 ≤ n
positive zero e = absurd cc
positive (suc n) e = omega arith

pub counted-more : (p q : Preference) (order : List Preference) (unit : ℕ) (rest : List Preference)
    → IsCounted p order unit (q ∷ rest)
    → IsCounted p order (cond ((unit == 0) && is_same p q) 1 (unit * range_of q)) rest
counted-more p q order unit rest so_far = by (unit == 0) (is_same p q) refl refl
  where
    few : ranges rest ≤ 2 ^ 49
    few =
        let more = mul-le 1 (ranges rest) (range_of q) (ranges rest) (range-positive q) (omega arith) in
        omega (arith, more, so_far.2)

    turned : unit * range_of q * ranges rest ≡ unit * (range_of q * ranges rest)
    turned = mul_assoc unit (range_of q) (ranges rest)

    left : (b : Bool) → (unit == 0) ≡ b
        → unit_of p order ≡ cond b (cond (is_same p q) (ranges rest) (unit_of p rest)) (unit * (range_of q * ranges rest))
    left b is = so_far.0 ∙ ap
        (λ c. cond c (cond (is_same p q) (ranges rest) (unit_of p rest)) (unit * (range_of q * ranges rest))) is

    by : (none same : Bool) → (unit == 0) ≡ none → is_same p q ≡ same
        → IsCounted p order (cond (none && same) 1 (unit * range_of q)) rest
    by true true is found = (
      left true is ∙ ap (λ b. cond b (ranges rest) (unit_of p rest)) found
          ∙ (let e : ranges rest ≡ 1 * ranges rest = omega arith in e),
      omega (arith, few),
      few,
    )
    by true false is found =
        let zero : unit * range_of q ≡ 0 =
        ap (λ u. u * range_of q) (eqb-true unit 0 is) ∙ (let e : 0 * range_of q ≡ 0 = omega arith in e) in
        let at : IsCounted p order 0 rest =
        (left true is ∙ ap (λ b. cond b (ranges rest) (unit_of p rest)) found, omega arith, few) in
        subst (λ u. IsCounted p order u rest) (sym zero) at
    by false same is found =
        let some : 1 ≤ unit * range_of q = mul-le 1 1 unit (range_of q) (positive unit is) (range-positive q) in (
          left false is ∙ sym turned ∙ sym (ap (λ b. cond b (unit_of p rest) (unit * range_of q * ranges rest)) (apart _ some)),
          omega (arith, turned, so_far.1),
          few,
        )
