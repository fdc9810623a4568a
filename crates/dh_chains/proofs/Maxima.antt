-- Maxima of functions of the minute that one departure and one arrival change.
use Rattle.std.proofs.Common.{◌≡◌, ◌≢◌, ◌⊎◌, ℕ, zero, suc, ◌<◌, ◌≤◌, Bool, nat_le, inl, inr, refl, ap, ◌∙◌, ⊎_elim, if◌then◌else◌, arith}
use Rattle.std.specs.Prelude.{ℤ, pos, ◌+ℤ◌, ◌-ℤ◌, ◌≤ℤ◌}
use Rattle.std.proofs.lemmas.Bool.{cases_eq, cases_lt, le-leb, lt-leb}
use Rattle.std.proofs.lemmas.Int.{ints}
use Rattle.trip_model.specs.Maximum.{first_maximum, sum_of_maxima}
use Rattle.trip_model.proofs.MaximumLemmas.{IsFirstMaximum-first_maximum}
use Rattle.deficit_steps.specs.NextMaximum.{IsNextMaximum, NoNextMaximum}

-- 1 where the test passes, else 0
abbrev pub unit : Bool → ℤ
unit test = if test then pos 1 else pos 0

-- what counts from a minute on counts at a later one, and not at an earlier one
from-minute : (from t : ℕ) → ((from ≤ t) × (unit (nat_le from t) ≡ pos 1)) ⊎ ((t < from) × (unit (nat_le from t) ≡ pos 0))
from-minute from t = ⊎_elim (λ (less : t < from). inr (less, ap unit (lt-leb from t less)))
    (λ (le : from ≤ t). inl (le, ap unit (le-leb from t le))) (cases_lt t from)

-- a value that is reached and that no value exceeds is the maximum
maximum-is : (d : ℕ → ℤ) (high : ℤ) (at : ℕ) → at ≤ 8191 → d at ≡ high → ((t : ℕ) → t ≤ 8191 → d t ≤ℤ high) → (first_maximum d).0 ≡ high
maximum-is d high at within reached greatest =
    let is = IsFirstMaximum-first_maximum d in
    let le = is.greatest at within in
    let ge = greatest (first_maximum d).1 is.within in
    let value = is.reached in
    omega (arith, ints, le, ge, value, reached)

-- one arrival more at the first minute of the maximum lowers it by one
pub lowered-at : (d e : ℕ → ℤ) (at : ℕ) → at ≡ (first_maximum d).1 → ((t : ℕ) → t ≤ 8191 → e t ≡ (d t -ℤ unit (nat_le at t)))
    → ((first_maximum e).0 +ℤ pos 1) ≡ (first_maximum d).0
lowered-at d e at first changed =
    let is = IsFirstMaximum-first_maximum d in
    let within : at ≤ 8191 = omega (arith, first, is.within) in
    let reached : d at ≡ (first_maximum d).0 = ap d first ∙ is.reached in
    let here : e at ≡ ((first_maximum d).0 -ℤ pos 1) =
    changed at within ∙ ⊎_elim
    (λ (on : (at ≤ at) × (unit (nat_le at at) ≡ pos 1)). λ i. reached i -ℤ on.1 i)
    (λ (off : (at < at) × (unit (nat_le at at) ≡ pos 0)). absurd (omega (arith, off.0)))
    (from-minute at at) in
    let high = maximum-is e ((first_maximum d).0 -ℤ pos 1) at within here (λ t h.
    let now = changed t h in
    ⊎_elim
    (λ (on : (at ≤ t) × (unit (nat_le at t) ≡ pos 1)). let le = is.greatest t h in let one = on.1 in omega (arith, ints, now, le, one))
    (λ (off : (t < at) × (unit (nat_le at t) ≡ pos 0)). let less = is.first t (omega (arith, off.0, first)) in let none = off.1 in
    omega (arith, ints, now, less, none))
    (from-minute at t)) in
    omega (arith, ints, high)

-- one departure more from a minute on and one arrival more at the next minute of the maximum keep it
pub kept-between : (d e : ℕ → ℤ) (from at : ℕ) → IsNextMaximum d from at
    → ((t : ℕ) → t ≤ 8191 → e t ≡ (d t +ℤ (unit (nat_le from t) -ℤ unit (nat_le at t)))) → (first_maximum e).0 ≡ (first_maximum d).0
kept-between d e from at next changed =
    let is = IsFirstMaximum-first_maximum d in
    maximum-is e (first_maximum d).0 at next.within
    (let now = changed at next.within in let reached = next.reached in
    ⊎_elim
    (λ (a : (from ≤ at) × (unit (nat_le from at) ≡ pos 1)). ⊎_elim
    (λ (b : (at ≤ at) × (unit (nat_le at at) ≡ pos 1)). let one = a.1 in let other = b.1 in omega (arith, ints, now, reached, one, other))
    (λ (b : (at < at) × (unit (nat_le at at) ≡ pos 0)). absurd (omega (arith, b.0)))
    (from-minute at at))
    (λ (a : (at < from) × (unit (nat_le from at) ≡ pos 0)). absurd (omega (arith, a.0, next.not_before)))
    (from-minute from at))
    (λ t h. let now = changed t h in let le = is.greatest t h in
    ⊎_elim
    (λ (a : (from ≤ t) × (unit (nat_le from t) ≡ pos 1)). ⊎_elim
    (λ (b : (at ≤ t) × (unit (nat_le at t) ≡ pos 1)). let one = a.1 in let other = b.1 in omega (arith, ints, now, le, one, other))
    (λ (b : (t < at) × (unit (nat_le at t) ≡ pos 0)). let one = a.1 in let other = b.1 in let less = next.first t a.0 b.0 in
    omega (arith, ints, now, less, one, other))
    (from-minute at t))
    (λ (a : (t < from) × (unit (nat_le from t) ≡ pos 0)). ⊎_elim
    (λ (b : (at ≤ t) × (unit (nat_le at t) ≡ pos 1)). absurd (omega (arith, a.0, b.0, next.not_before)))
    (λ (b : (t < at) × (unit (nat_le at t) ≡ pos 0)). let one = a.1 in let other = b.1 in omega (arith, ints, now, le, one, other))
    (from-minute at t))
    (from-minute from t))

-- one departure more after the last minute of the maximum keeps it
pub kept-after : (d e : ℕ → ℤ) (from : ℕ) → NoNextMaximum d from → ((t : ℕ) → t ≤ 8191 → e t ≡ (d t +ℤ unit (nat_le from t)))
    → (first_maximum e).0 ≡ (first_maximum d).0
kept-after d e from none changed =
    let is = IsFirstMaximum-first_maximum d in
    let at = (first_maximum d).1 in
    let reached = is.reached in
    let now = changed at is.within in
    maximum-is e (first_maximum d).0 at is.within
    (⊎_elim
    (λ (on : (from ≤ at) × (unit (nat_le from at) ≡ pos 1)). let less = none at on.0 is.within in
    absurd (omega (arith, ints, less, reached)))
    (λ (off : (at < from) × (unit (nat_le from at) ≡ pos 0)). let zero = off.1 in omega (arith, ints, now, reached, zero))
    (from-minute from at))
    (λ t h. let then_ = changed t h in
    ⊎_elim
    (λ (on : (from ≤ t) × (unit (nat_le from t) ≡ pos 1)). let less = none t on.0 h in let one = on.1 in
    omega (arith, ints, then_, less, one))
    (λ (off : (t < from) × (unit (nat_le from t) ≡ pos 0)). let le = is.greatest t h in let zero = off.1 in
    omega (arith, ints, then_, le, zero))
    (from-minute from t))

-- sums of equal maxima
sum-same : (f g : ℕ → ℕ → ℤ) (n : ℕ) → ((p : ℕ) → p < n → (first_maximum (g p)).0 ≡ (first_maximum (f p)).0)
    → sum_of_maxima g n ≡ sum_of_maxima f n
sum-same f g zero same = refl
sum-same f g (suc n) same = λ i. sum-same f g n (λ p h. same p (omega arith)) i +ℤ same n (omega arith) i

-- where the maximum of one place is less by one, and all others are the same, so is the sum
pub sum-lowered : (f g : ℕ → ℕ → ℤ) (n k : ℕ) → k < n → ((first_maximum (g k)).0 +ℤ pos 1) ≡ (first_maximum (f k)).0
    → ((p : ℕ) → p < n → p ≢ k → (first_maximum (g p)).0 ≡ (first_maximum (f p)).0) → (sum_of_maxima g n +ℤ pos 1) ≡ sum_of_maxima f n
sum-lowered f g zero k within lower same = absurd (omega arith)
sum-lowered f g (suc n) k within lower same = ⊎_elim
    (λ (last : n ≡ k).
    let rest : sum_of_maxima g n ≡ sum_of_maxima f n =
    sum-same f g n (λ p h. same p (omega arith) (let other : p ≢ k = omega arith in other)) in
    let mine : (first_maximum (f n)).0 ≡ (first_maximum (f k)).0 = ap (λ p. (first_maximum (f p)).0) last in
    let yours : (first_maximum (g n)).0 ≡ (first_maximum (g k)).0 = ap (λ p. (first_maximum (g p)).0) last in
    omega (arith, ints, rest, mine, yours, lower))
    (λ (other : n ≡ k → ⊥).
    let rest = sum-lowered f g n k (let apart : n ≢ k = other in omega arith) lower (λ p h. same p (omega arith)) in
    let last = same n (omega arith) other in
    omega (arith, ints, rest, last))
    (cases_eq n k)
