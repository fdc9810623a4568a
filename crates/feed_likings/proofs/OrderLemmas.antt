-- Preferences in an order count as digits do in a number.
use Rattle.std.proofs.Common.{◌≡◌, ℕ, ◌+◌, ◌*◌, ◌<◌, true, not, List, [], ◌∷◌, ⊎_elim, ap, ◌∙◌, arith}
use Rattle.std.proofs.Common.{lit<}
use Rattle.std.proofs.Math.Nat.{mul_comm}
use Rattle.std.proofs.lemmas.Bool.{and_parts}
use Rattle.std.proofs.lemmas.Nat.{mul-add-lt}
use Rattle.desk_settings.specs.Prefer.{has, none_twice}
use Rattle.desk_settings.specs.declared.prefer.Preference.{Preference}
use Rattle.desk_settings.specs.declared.prefer.Preference.TheVariants.{Stated, Line, Waiting}
use Rattle.feed_likings.specs.Laws.{FirstDecides, HasMore, IsInRange, counted}
use Rattle.feed_likings.specs.Units.{range_of, ranges, unit_of}
use Rattle.feed_likings.proofs.UnitLemmas.{not-true, unit-none}

-- what is had of each, one preference after the other
abbrev pub digits : List Preference → (Preference → ℕ) → ℕ
digits [] had = 0
digits (p ∷ order) had = had p * ranges order + digits order had

none-of : (p : Preference) (order : List Preference) (had : Preference → ℕ) → not (has p order) ≡ true → had p * unit_of p order ≡ 0
none-of p order had none =
    ap (λ u. had p * u) (unit-none p order (not-true _ none)) ∙ (let e : had p * 0 ≡ 0 = omega arith in e)

counted-digits : (order : List Preference) (had : Preference → ℕ) → none_twice order ≡ true → counted order had ≡ digits order had
counted-digits [] had once = omega arith
counted-digits (Stated ∷ order) had once =
    let parts = and_parts (not (has Stated order)) (none_twice order) once in
    let rest = counted-digits order had parts.1 in
    let none = none-of Stated order had parts.0 in
    omega (arith, rest, none)
counted-digits (Line ∷ order) had once =
    let parts = and_parts (not (has Line order)) (none_twice order) once in
    let rest = counted-digits order had parts.1 in
    let none = none-of Line order had parts.0 in
    omega (arith, rest, none)
counted-digits (Waiting ∷ order) had once =
    let parts = and_parts (not (has Waiting order)) (none_twice order) once in
    let rest = counted-digits order had parts.1 in
    let none = none-of Waiting order had parts.0 in
    omega (arith, rest, none)

digits-below : (order : List Preference) (had : Preference → ℕ) → IsInRange had → digits order had < ranges order
digits-below [] had within = lit< tt
digits-below (p ∷ order) had within =
    let less = mul-add-lt (had p) (ranges order) (digits order had) (range_of p) (within p) (digits-below order had within) in
    let turned = mul_comm (ranges order) (range_of p) in
    omega (arith, less, turned)

more-digits : (order : List Preference) (had other : Preference → ℕ) → IsInRange other → HasMore order had other
    → digits order other < digits order had
more-digits [] had other within more = absurd more
more-digits (p ∷ order) had other within more = ⊎_elim
    (λ (lt : other p < had p).
    let less = mul-add-lt (other p) (ranges order) (digits order other) (had p) lt (digits-below order other within) in
    let turned = mul_comm (ranges order) (had p) in
    omega (arith, less, turned))
    (λ (same : (other p ≡ had p) × HasMore order had other).
    let rest = more-digits order had other within same.1 in
    let front = ap (λ n. n * ranges order) same.0 in
    omega (arith, rest, front))
    more

pub first-decides : FirstDecides
first-decides order had other once within within-other more =
    let less = more-digits order had other within-other more in
    let one = counted-digits order had once in
    let two = counted-digits order other once in
    omega (arith, less, one, two)
