-- The forerunner of a trip is what it is said to be.
use Rattle.std.proofs.Common.{◌≡◌, ◌≢◌, ◌⊎◌, ℕ, zero, suc, ◌<◌, ◌≤◌, ◌&&◌, Bool, true, false, List, length, Option, None, Some}
use Rattle.std.proofs.Common.{if◌then◌else◌, refl, sym, ap, ◌∙◌, inl, inr, ⊎_elim, arith}
use Rattle.std.proofs.lemmas.Bool.{and_parts, and_from, ltb-true, lt-ltb, false≢true, cases_eq, cases_lt}
use Rattle.trip_model.specs.declared.trip.Move.{Move}
use Rattle.trip_model.specs.Order.{minute_arrived}
use Rattle.trip_model.specs.Plain.{move_at}
use Rattle.fixed_fleet.specs.Rule.{may_precede, ends_before, forerunner_below, forerunner, IsForerunner}

-- the slot is the forerunner of j among those below a bound
abbrev IsBestBelow : List (Option Move) → List (Option ℕ) → ℕ → ℕ → Option ℕ → Type 0
IsBestBelow moves links j n None = (h : ℕ) → h < n → may_precede moves links j h ≡ true → ⊥
IsBestBelow moves links j n (Some i) =
    (i < n) × (may_precede moves links j i ≡ true)
    × ((h : ℕ) → h < n → may_precede moves links j h ≡ true
    → (minute_arrived (move_at moves i) < minute_arrived (move_at moves h))
    ⊎ ((minute_arrived (move_at moves i) ≡ minute_arrived (move_at moves h)) × (i ≤ h)))

best-next : (moves : List (Option Move)) (links : List (Option ℕ)) (j n : ℕ) (before : Option ℕ) → IsBestBelow moves links j n before
    → (better : Bool) → (may_precede moves links j n && ends_before moves n before) ≡ better
    → IsBestBelow moves links j (suc n) (if better then Some n else before)
best-next moves links j n None best true e = (
  omega arith,
  (and_parts (may_precede moves links j n) true e).0,
  λ h lt may. ⊎_elim
      (λ (same : h ≡ n). inr ((ap (λ s. minute_arrived (move_at moves s)) (sym same)), (let le : n ≤ h = omega arith in le)))
      (λ (other : h ≡ n → ⊥). absurd (best h (omega arith) may))
      (cases_eq h n),
)
best-next moves links j n (Some b) best true e =
    let parts = and_parts (may_precede moves links j n) (ends_before moves n (Some b)) e in
    let sooner = ltb-true (minute_arrived (move_at moves n)) (minute_arrived (move_at moves b)) parts.1 in (
      omega arith,
      parts.0,
      λ h lt may. ⊎_elim
          (λ (same : h ≡ n). inr ((ap (λ s. minute_arrived (move_at moves s)) (sym same)), (let le : n ≤ h = omega arith in le)))
          (λ (other : h ≡ n → ⊥). ⊎_elim
          (λ (later : minute_arrived (move_at moves b) < minute_arrived (move_at moves h)). inl (omega arith))
          (λ (tie : (minute_arrived (move_at moves b) ≡ minute_arrived (move_at moves h)) × (b ≤ h)). inl (omega (arith, tie.0)))
          (best.2 h (omega arith) may))
          (cases_eq h n),
    )
best-next moves links j n None best false e = λ h lt may. ⊎_elim
    (λ (same : h ≡ n). false≢true (sym e
    ∙ and_from (may_precede moves links j n) true (ap (may_precede moves links j) (sym same) ∙ may) refl))
    (λ (other : h ≡ n → ⊥). best h (omega arith) may)
    (cases_eq h n)
best-next moves links j n (Some b) best false e = (
  (let lt = best.0 in omega arith),
  best.1,
  λ h lt may. ⊎_elim
      (λ (same : h ≡ n).
      let mine : may_precede moves links j n ≡ true = ap (may_precede moves links j) (sym same) ∙ may in
      let minute = ap (λ s. minute_arrived (move_at moves s)) same in
      ⊎_elim
      (λ (sooner : minute_arrived (move_at moves n) < minute_arrived (move_at moves b)).
      absurd (false≢true (sym e ∙ and_from (may_precede moves links j n) _ mine
      (lt-ltb (minute_arrived (move_at moves n)) (minute_arrived (move_at moves b)) sooner))))
      (λ (le : minute_arrived (move_at moves b) ≤ minute_arrived (move_at moves n)). ⊎_elim
      (λ (tie : minute_arrived (move_at moves b) ≡ minute_arrived (move_at moves n)). inr
      (tie ∙ sym minute, (let within = best.0 in let le : b ≤ h = omega arith in le)))
      (λ (apart : minute_arrived (move_at moves b) ≡ minute_arrived (move_at moves n) → ⊥). inl
      (let strict : minute_arrived (move_at moves b) ≢ minute_arrived (move_at moves n) = apart in omega arith))
      (cases_eq (minute_arrived (move_at moves b)) (minute_arrived (move_at moves n))))
      (cases_lt (minute_arrived (move_at moves n)) (minute_arrived (move_at moves b))))
      (λ (other : h ≡ n → ⊥). best.2 h (omega arith) may)
      (cases_eq h n),
)

best-below : (moves : List (Option Move)) (links : List (Option ℕ)) (j n : ℕ)
    → IsBestBelow moves links j n (forerunner_below moves links j n)
best-below moves links j zero = λ h lt may. omega arith
best-below moves links j (suc n) = best-next moves links j n (forerunner_below moves links j n) (best-below moves links j n) _ refl

widen : (moves : List (Option Move)) (links : List (Option ℕ)) (j : ℕ) (found : Option ℕ) → IsBestBelow moves links j (length moves) found
    → IsForerunner moves links j found
widen moves links j None best = best
widen moves links j (Some i) best = best

pub IsForerunner-forerunner : (moves : List (Option Move)) (links : List (Option ℕ)) (j : ℕ)
    → IsForerunner moves links j (forerunner moves links j)
IsForerunner-forerunner moves links j = widen moves links j (forerunner moves links j) (best-below moves links j (length moves))

-- a trip has one forerunner
pub forerunner-once : (moves : List (Option Move)) (links : List (Option ℕ)) (j : ℕ) (a b : Option ℕ) → IsForerunner moves links j a
    → IsForerunner moves links j b → a ≡ b
forerunner-once moves links j None None x y = refl
forerunner-once moves links j None (Some k) x y = absurd (x k y.0 y.1)
forerunner-once moves links j (Some i) None x y = absurd (y i x.0 x.1)
forerunner-once moves links j (Some i) (Some k) x y = ⊎_elim
    (λ (sooner : minute_arrived (move_at moves i) < minute_arrived (move_at moves k)). ⊎_elim
    (λ (later : minute_arrived (move_at moves k) < minute_arrived (move_at moves i)). absurd (omega arith))
    (λ (tie : (minute_arrived (move_at moves k) ≡ minute_arrived (move_at moves i)) × (k ≤ i)). absurd (let same = tie.0 in omega arith))
    (y.2 i x.0 x.1))
    (λ (tie : (minute_arrived (move_at moves i) ≡ minute_arrived (move_at moves k)) × (i ≤ k)). ⊎_elim
    (λ (later : minute_arrived (move_at moves k) < minute_arrived (move_at moves i)). absurd (let same = tie.0 in omega arith))
    (λ (other : (minute_arrived (move_at moves k) ≡ minute_arrived (move_at moves i)) × (k ≤ i)).
    let one : i ≡ k = (let le = tie.1 in let ge = other.1 in omega arith) in ap Some one)
    (y.2 i x.0 x.1))
    (x.2 k y.0 y.1)
