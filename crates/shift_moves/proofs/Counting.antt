-- How the sum of the maxima follows those of two places.
use Rattle.std.proofs.Common.{◌≡◌, ◌≢◌, ℕ, zero, suc, ◌<◌, ◌≤◌, ◌==◌, cond, List, length, ℤ, pos, ◌+ℤ◌, ◌<ℤ◌, refl, sym, ap, ◌∙◌, ⊎_elim}
use Rattle.std.proofs.Common.{arith}
use Rattle.std.proofs.lemmas.Bool.{cases_eq, eq-eqb, ne_eqb}
use Rattle.std.proofs.lemmas.Int.{ints}
use Rattle.trip_model.specs.Deficit.{deficit, live_moves}
use Rattle.trip_model.specs.Maximum.{first_maximum, sum_of_maxima}
use Rattle.trip_model.specs.Timetable.{TimetableView}
use Rattle.trip_model.proofs.MaximumLemmas.{first_maximum-agree}
use Rattle.trip_model.specs.Fleet.{deficit_sum}
use Rattle.deficit_steps.specs.Changes.{changes_of, value, value_in}
use Rattle.deficit_steps.proofs.DeficitsLemmas.{sum_of_maxima-agree}
use Rattle.shift_moves.specs.Trial.{maxima_at}

-- functions that agree but at one place differ in the sum by what they differ in there
sum-one : (f g : ℕ → ℕ → ℤ) (n p : ℕ) → p < n → ((k t : ℕ) → k < n → k ≢ p → t ≤ 8191 → f k t ≡ g k t)
    → (sum_of_maxima f n +ℤ (first_maximum (g p)).0) ≡ (sum_of_maxima g n +ℤ (first_maximum (f p)).0)
sum-one f g zero p there same = absurd (omega arith)
sum-one f g (suc n) p there same = ⊎_elim
    (λ (last : n ≡ p).
    let rest : sum_of_maxima f n ≡ sum_of_maxima g n =
    sum_of_maxima-agree f g n (λ k t h minute. same k t (omega arith) (let other : k ≢ p = omega arith in other) minute) in
    let mine : (first_maximum (f n)).0 ≡ (first_maximum (f p)).0 = ap (λ k. (first_maximum (f k)).0) last in
    let yours : (first_maximum (g n)).0 ≡ (first_maximum (g p)).0 = ap (λ k. (first_maximum (g k)).0) last in
    omega (arith, ints, rest, mine, yours))
    (λ (other : n ≡ p → ⊥).
    let apart : n ≢ p = other in
    let rest = sum-one f g n p (omega arith) (λ k t h. same k t (omega arith)) in
    let mine : (first_maximum (f n)).0 ≡ (first_maximum (g n)).0 =
    ap (λ (m : ℤ × ℕ). m.0) (first_maximum-agree (f n) (g n) (λ t minute. same n t (omega arith) apart minute)) in
    omega (arith, ints, rest, mine))
    (cases_eq n p)

-- functions that agree but at two places differ in the sum by what they differ in at these
sum-two : (f g : ℕ → ℕ → ℤ) (n p q : ℕ) → p < n → q < n → p ≢ q → ((k t : ℕ) → k < n → k ≢ p → k ≢ q → t ≤ 8191 → f k t ≡ g k t)
    → (sum_of_maxima f n +ℤ maxima_at g p q) ≡ (sum_of_maxima g n +ℤ maxima_at f p q)
sum-two f g n p q from to apart same =
    let h : ℕ → ℕ → ℤ = λ k. cond (k == p) (g k) (f k) in
    let at_p : (t : ℕ) → h p t ≡ g p t = λ t. ap (λ b. cond b (g p) (f p) t) (eq-eqb p p refl) in
    let off_p : (k t : ℕ) → k ≢ p → h k t ≡ f k t = λ k t other. ap (λ b. cond b (g k) (f k) t) (ne_eqb k p other) in
    let one = sum-one f h n p from (λ k t within other minute. sym (off_p k t other)) in
    let two = sum-one h g n q to (λ k t within other minute. ⊎_elim
    (λ (here : k ≡ p). ap (λ j. h j t) here ∙ at_p t ∙ ap (λ j. g j t) (sym here))
    (λ (elsewhere : k ≡ p → ⊥). off_p k t elsewhere ∙ same k t within elsewhere other minute)
    (cases_eq k p)) in
    let left : (first_maximum (h p)).0 ≡ (first_maximum (g p)).0 =
    ap (λ (m : ℤ × ℕ). m.0) (first_maximum-agree (h p) (g p) (λ t minute. at_p t)) in
    let right : (first_maximum (h q)).0 ≡ (first_maximum (f q)).0 =
    ap (λ (m : ℤ × ℕ). m.0) (first_maximum-agree (h q) (f q) (λ t minute. off_p q t (λ e. apart (sym e)))) in
    omega (arith, ints, one, two, left, right)

-- so the sum is smaller exactly where the maxima of the two places are, which may be one place
pub lower-at : (f g : ℕ → ℕ → ℤ) (n p q : ℕ) → p < n → q < n → ((k t : ℕ) → k < n → k ≢ p → k ≢ q → t ≤ 8191 → f k t ≡ g k t)
    → (maxima_at g p q <ℤ maxima_at f p q → sum_of_maxima g n <ℤ sum_of_maxima f n)
    × (sum_of_maxima g n <ℤ sum_of_maxima f n → maxima_at g p q <ℤ maxima_at f p q)
lower-at f g n p q from to same = ⊎_elim
    (λ (one_place : p ≡ q).
    let sums = sum-one f g n p from (λ k t within other minute. same k t within other (λ e. other (e ∙ sym one_place)) minute) in
    let mine : (first_maximum (f p)).0 ≡ (first_maximum (f q)).0 = ap (λ k. (first_maximum (f k)).0) one_place in
    let yours : (first_maximum (g p)).0 ≡ (first_maximum (g q)).0 = ap (λ k. (first_maximum (g k)).0) one_place in
    ((λ less. omega (arith, ints, sums, mine, yours, less)), (λ less. omega (arith, ints, sums, mine, yours, less))))
    (λ (apart : p ≡ q → ⊥).
    let sums = sum-two f g n p q from to apart same in
    ((λ less. omega (arith, ints, sums, less)), (λ less. omega (arith, ints, sums, less))))
    (cases_eq p q)

-- the two maxima as they were read before and after, where all other places kept their changes
pub lower-read : (t u : TimetableView) (d e : List (List ℤ)) (p q before after : ℕ) → length e ≡ length d → length d ≡ length t.places
    → length u.places ≡ length t.places → p < length d → q < length d
    → pos before ≡ maxima_at (value d) p q → pos after ≡ maxima_at (value e) p q
    → sum_of_maxima (value d) (length d) ≡ sum_of_maxima (deficit (live_moves t.slots)) (length d)
    → sum_of_maxima (value e) (length e) ≡ sum_of_maxima (deficit (live_moves u.slots)) (length e)
    → ((k : ℕ) → k ≢ p → k ≢ q → changes_of e k ≡ changes_of d k)
    → (after < before → deficit_sum u <ℤ deficit_sum t) × (deficit_sum u <ℤ deficit_sum t → after < before)
lower-read t u d e p q before after rows places kept from to was now held held' others =
    let lower = lower-at (value d) (value e) (length d) p q from to
    (λ k time within from' to' minute. ap (λ row. value_in row time) (sym (others k from' to'))) in
    let old : sum_of_maxima (value d) (length d) ≡ deficit_sum t = held ∙ ap (sum_of_maxima (deficit (live_moves t.slots))) places in
    let new : sum_of_maxima (value e) (length d) ≡ deficit_sum u = ap (sum_of_maxima (value e)) (sym rows) ∙ held'
    ∙ ap (sum_of_maxima (deficit (live_moves u.slots))) (rows ∙ places ∙ sym kept) in (
      (λ less. let sums = lower.0 (omega (arith, ints, was, now, less)) in omega (arith, ints, sums, old, new)),
      (λ less. let maxima = lower.1 (omega (arith, ints, old, new, less)) in omega (arith, ints, maxima, was, now)),
    )
