-- The first maximum of a function of the minute, and that there is only one.
use Rattle.std.proofs.Common.{◌≡◌, ℕ, zero, suc, ◌+◌, ◌<◌, ◌≤◌, Bool, true, false, List, [], ◌∷◌, All, cond, ◌==◌, ◌&&◌, nat_le, ℤ, pos}
use Rattle.std.proofs.Common.{◌≤ℤ◌, ◌<ℤ◌, if◌then◌else◌, refl, ap, subst, ◌∙◌, ⊎_elim, arith}
use Rattle.std.specs.Prelude.{int_lt}
use Rattle.std.proofs.lemmas.Bool.{cases_lt, lt-leb, and_right}
use Rattle.std.proofs.lemmas.Int.{ints}
use Rattle.std.proofs.lemmas.List.Elements.{All-head, All-tail}
use Rattle.std.proofs.lemmas.List.Sums.{sum_by-cons}
use Rattle.trip_model.specs.declared.trip.Move.{Move}
use Rattle.trip_model.specs.Deficit.{arrivals, deficit}
use Rattle.trip_model.specs.Maximum.{IsFirstMaximum, first_maximum_up_to, first_maximum}

-- `high` is the greatest value of d up to `last`, and d has it at `at` for the first time
record IsBest (d : ℕ → ℤ) (last : ℕ) (high : ℤ) (at : ℕ) : Type 0 where
  pub within : at ≤ last
  pub reached : d at ≡ high
  pub greatest : (t : ℕ) → t ≤ last → d t ≤ℤ high
  pub first : (t : ℕ) → t < at → d t <ℤ high

-- what holds up to `last` and of the next minute holds up to the next minute
more : (P : ℕ → Type 0) (last : ℕ) → ((t : ℕ) → t ≤ last → P t) → P (suc last) → (t : ℕ) → t ≤ suc last → P t
more P last below here t h =
    ⊎_elim (λ (k : last < t). let e : suc last ≡ t = omega arith in subst P e here) (λ (k : t ≤ last). below t k) (cases_lt last t)

IsBest-next : (d : ℕ → ℤ) (last : ℕ) (b : ℤ × ℕ) → IsBest d last b.0 b.1 → (higher : Bool) → int_lt b.0 (d (suc last)) ≡ higher
    → let next = if higher then (d (suc last), suc last) else b in IsBest d (suc last) next.0 next.1
IsBest-next d last b best true e = record {
  within = omega arith;
  reached = refl;
  greatest = more (λ t. d t ≤ℤ d (suc last)) last (λ t h. let le = best.greatest t h in grind (arith, ints)) (omega (arith, ints));
  first = λ t h. let le = best.greatest t (omega arith) in grind (arith, ints);
}
IsBest-next d last b best false e = record {
  within = (let h = best.within in omega arith);
  reached = best.reached;
  greatest = more (λ t. d t ≤ℤ b.0) last best.greatest (grind (arith, ints));
  first = best.first;
}

IsBest-up_to : (d : ℕ → ℤ) (last : ℕ) → IsBest d last (first_maximum_up_to d last).0 (first_maximum_up_to d last).1
unfolding first_maximum_up_to
IsBest-up_to d zero = record {
  within = omega arith;
  reached = refl;
  greatest = λ t h. let e : t ≡ 0 = omega arith in rw e (omega (arith, ints));
  first = λ t h. absurd (omega arith);
}
IsBest-up_to d (suc last) = IsBest-next d last (first_maximum_up_to d last) (IsBest-up_to d last) _ refl

first_maximum_is : (d : ℕ → ℤ) (last : ℕ) → last ≡ 8191 → first_maximum_up_to d last ≡ first_maximum d
unfolding first_maximum
first_maximum_is d last e = ap (first_maximum_up_to d) e

IsFirstMaximum-from_best : (d : ℕ → ℤ) (last : ℕ) (b : ℤ × ℕ) → last ≡ 8191 → IsBest d last b.0 b.1 → IsFirstMaximum d b.0 b.1
IsFirstMaximum-from_best d last b e best = record {
  within = omega (arith, best.within);
  reached = best.reached;
  greatest = λ t h. best.greatest t (omega arith);
  first = best.first;
}

-- the first maximum over all minutes
IsFirstMaximum-at : (d : ℕ → ℤ) (last : ℕ) → last ≡ 8191 → IsFirstMaximum d (first_maximum d).0 (first_maximum d).1
IsFirstMaximum-at d last e =
    subst (λ b. IsFirstMaximum d b.0 b.1) (first_maximum_is d last e)
    (IsFirstMaximum-from_best d last (first_maximum_up_to d last) e (IsBest-up_to d last))

pub IsFirstMaximum-first_maximum : (d : ℕ → ℤ) → IsFirstMaximum d (first_maximum d).0 (first_maximum d).1
IsFirstMaximum-first_maximum d = IsFirstMaximum-at d 8191 refl

-- two first maxima are one
pub IsFirstMaximum-unique : (d : ℕ → ℤ) (high : ℤ) (at : ℕ) (high' : ℤ) (at' : ℕ) → IsFirstMaximum d high at → IsFirstMaximum d high' at'
    → (high ≡ high') × (at ≡ at')
IsFirstMaximum-unique d high at high' at' f g =
    let same : high ≡ high' = (let a = g.greatest at f.within in let b = f.greatest at' g.within in let p = f.reached in
    let q = g.reached in grind (arith, ints)) in (
      same,
      ⊎_elim
          (λ (h : at < at'). let lt = g.first at h in let p = f.reached in absurd (grind (arith, ints)))
          (λ (h : at' ≤ at). ⊎_elim
          (λ (k : at' < at). let lt = f.first at' k in let p = g.reached in absurd (grind (arith, ints)))
          (λ (k : at ≤ at'). let e : at ≡ at' = omega arith in e)
          (cases_lt at' at))
          (cases_lt at at'),
    )

-- a first maximum is the one that the function computes
pub first_maximum-unique : (d : ℕ → ℤ) (high : ℤ) (at : ℕ) → IsFirstMaximum d high at → first_maximum d ≡ (high, at)
first_maximum-unique d high at f =
    let e = IsFirstMaximum-unique d _ _ _ _ (IsFirstMaximum-first_maximum d) f in λ i. (e.0 i, e.1 i)

-- functions that agree at every minute have one first maximum
pub first_maximum-agree : (d e : ℕ → ℤ) → ((t : ℕ) → t ≤ 8191 → d t ≡ e t) → first_maximum d ≡ first_maximum e
first_maximum-agree d e same =
    let f = IsFirstMaximum-first_maximum e in
    first_maximum-unique d _ _ (record {
      within = f.within;
      reached = same _ f.within ∙ f.reached;
      greatest = λ t h. rw (same t h) (f.greatest t h);
      first = λ t h. rw (same t (let w = f.within in omega arith)) (f.first t h);
    })

-- a maximum is no less than the value at minute 0
pub first_maximum-le : (d : ℕ → ℤ) → pos 0 ≤ℤ d 0 → pos 0 ≤ℤ (first_maximum d).0
first_maximum-le d h = let g = (IsFirstMaximum-first_maximum d).greatest 0 (omega arith) in grind (arith, ints)

-- no move has arrived at minute 0
arrivals-start : (moves : List Move) (place : ℕ) → All (λ m. m.leaves < m.arrives) moves → arrivals moves place 0 ≡ 0
arrivals-start [] place forward = refl
arrivals-start (m ∷ moves) place forward =
    sum_by-cons (λ m. cond ((m.to == place) && nat_le m.arrives 0) 1 0) m moves
    ∙ (let first = All-head (λ m. m.leaves < m.arrives) m moves forward in
    let late : nat_le m.arrives 0 ≡ false = lt-leb m.arrives 0 (omega arith) in
    let rest = arrivals-start moves place (All-tail (λ m. m.leaves < m.arrives) m moves forward) in
    λ i. cond (and_right (m.to == place) (nat_le m.arrives 0) late i) 1 0 + rest i)

-- where every move arrives after it leaves, no maximum of a deficit is below 0
pub deficit-maximum : (moves : List Move) (place : ℕ) → All (λ m. m.leaves < m.arrives) moves
    → pos 0 ≤ℤ (first_maximum (deficit moves place)).0
deficit-maximum moves place forward =
    first_maximum-le (deficit moves place) (rw (arrivals-start moves place forward) (omega (arith, ints)))
