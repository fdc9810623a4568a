-- The sum of the changes of one place, minute by minute: its bounds, its steps so far, and one change raised.
use Rattle.std.proofs.Common.{◌≡◌, ℕ, zero, suc, ◌+◌, ◌*◌, ◌^◌, ◌<◌, ◌≤◌, ◌≢◌, true, false, not, List, [], ◌∷◌, ◌++◌, length, get_or, take}
use Rattle.std.proofs.Common.{fold, All, ℤ, pos, neg_ℤ, ◌+ℤ◌, ◌≤ℤ◌, if◌then◌else◌, refl, sym, ap, subst, ◌∙◌, ⊎_elim, add-one, arith}
use mir.Val.{to_z, of_z, hbits}
use Rattle.std.specs.Int.RustNames.{FitsSigned, unsigned_abs}
use mir.Syntax.{w32}
use lib.IntN.{nat_abs, negsuc}
use Rattle.std.specs.Ordering.{int_eq}
use Rattle.std.proofs.lemmas.Bool.{cases_lt, false_from_ne_true}
use Rattle.std.proofs.lemmas.Bool.Decides.{Decides-int_eq}
use Rattle.std.proofs.lemmas.Int.{ints, to_z-of_z, fits_signed_from_abs}
use Rattle.std.proofs.lemmas.List.Elements.{All-set}
use Rattle.std.proofs.lemmas.List.{append-nil, length-set, get_or-set_same, get_or-set_other}
use Rattle.std.proofs.lemmas.List.Sums.{fold_more}
use Rattle.trip_model.specs.Steps.{value_before, is_step, steps_before}
use Rattle.trip_model.proofs.StepsLemmas.{steps_before-suc}
use Rattle.deficit_steps.specs.Changes.{IsChange, AreChanges, value_in, with_change_in}

-- the sum of the first n changes
abbrev pub sum_of : List ℤ → ℕ → ℤ
sum_of changes n = fold ◌+ℤ◌ (pos 0) (take n changes)

-- one change more
pub sum_of-more : (changes : List ℤ) (n : ℕ) → n < length changes → sum_of changes (n + 1) ≡ sum_of changes n +ℤ get_or changes n (pos 0)
sum_of-more changes n h = fold_more ◌+ℤ◌ (pos 0) changes n (pos 0) h

-- each change moves the sum by at most 65,536
sum_of-bounded : (changes : List ℤ) (n : ℕ) → All IsChange changes → n ≤ length changes
    → (neg_ℤ (pos (65536 * n)) ≤ℤ sum_of changes n) × (sum_of changes n ≤ℤ pos (65536 * n))
sum_of-bounded changes zero bounded h = (omega (arith, ints), omega (arith, ints))
sum_of-bounded changes (suc n) bounded h =
    let before = sum_of-bounded changes n bounded (omega arith) in
    let more = sum_of-more changes n (omega arith) in
    let change = bounded n (pos 0) (omega arith) in
    let next : sum_of changes (suc n) ≡ sum_of changes n +ℤ get_or changes n (pos 0) = rw (← add-one n) more in
    rw next (omega (arith, ints), omega (arith, ints))

-- a number within 2 ^ 29 either way fits an i32
fits-between : (z : ℤ) → neg_ℤ (pos 536870912) ≤ℤ z → z ≤ℤ pos 536870912 → FitsSigned w32 z
fits-between z low high = fits_signed_from_abs w32 z (by z low high)
  where
    by : (z : ℤ) → neg_ℤ (pos 536870912) ≤ℤ z → z ≤ℤ pos 536870912 → unsigned_abs z < 2 ^ hbits w32
    by (pos n) low high = omega (arith, ints)
    by (negsuc n) low high = omega (arith, ints)

-- so the sum of at most 8,192 changes fits an i32
sum_of-fits : (changes : List ℤ) (n : ℕ) → All IsChange changes → length changes ≤ 8192 → n ≤ length changes
    → FitsSigned w32 (sum_of changes n)
sum_of-fits changes n bounded short h =
    let b = sum_of-bounded changes n bounded h in
    fits-between (sum_of changes n) (omega (arith, ints, b.0)) (omega (arith, ints, b.1))

-- a change fits an i32
pub change_fits : (changes : List ℤ) (n : ℕ) → All IsChange changes → n < length changes → FitsSigned w32 (get_or changes n (pos 0))
change_fits changes n bounded h =
    let b = bounded n (pos 0) h in
    fits-between (get_or changes n (pos 0)) (omega (arith, ints, b.0)) (omega (arith, ints, b.1))

-- what a loop over the changes adds up, where x is the next change as the code reads it
next_sum : (changes : List ℤ) (n : ℕ) (sum x : ℤ) → get_or changes n (pos 0) ≡ x → All IsChange changes → n < length changes
    → sum ≡ sum_of changes n
    → (sum +ℤ to_z w32 (of_z w32 x)) ≡ sum_of changes (n + 1)
next_sum changes n sum x read bounded h e =
    (λ i. e i +ℤ to_z w32 (of_z w32 (sym read i))) ∙ ap (λ c. sum_of changes n +ℤ c) (to_z-of_z w32 _ (change_fits changes n bounded h))
    ∙ sym (sum_of-more changes n h)

-- it fits
pub next_sum-fits : (changes : List ℤ) (n : ℕ) (sum x : ℤ) → get_or changes n (pos 0) ≡ x → All IsChange changes → length changes ≤ 8192
    → n < length changes → sum ≡ sum_of changes n
    → FitsSigned w32 (sum +ℤ to_z w32 (of_z w32 x))
next_sum-fits changes n sum x read bounded short h e =
    subst (FitsSigned w32) (sym (next_sum changes n sum x read bounded h e)) (sum_of-fits changes (n + 1) bounded short (omega arith))

-- and is the sum of one change more
pub next_sum-is : (changes : List ℤ) (n : ℕ) (sum x : ℤ) → get_or changes n (pos 0) ≡ x → All IsChange changes → length changes ≤ 8192
    → n < length changes → sum ≡ sum_of changes n
    → to_z w32 (of_z w32 (sum +ℤ to_z w32 (of_z w32 x))) ≡ sum_of changes (n + 1)
next_sum-is changes n sum x read bounded short h e =
    to_z-of_z w32 _ (next_sum-fits changes n sum x read bounded short h e) ∙ next_sum changes n sum x read bounded h e

-- the bits of a change are 0 where it is 0, and only there
pub change_is_zero : (changes : List ℤ) (n : ℕ) (x : ℤ) → get_or changes n (pos 0) ≡ x → All IsChange changes → n < length changes
    → of_z w32 x ≡ 0 → get_or changes n (pos 0) ≡ pos 0
change_is_zero changes n x read bounded h e =
    sym (to_z-of_z w32 _ (change_fits changes n bounded h)) ∙ ap (to_z w32) (ap (of_z w32) read ∙ e)

pub change_is_not_zero : (changes : List ℤ) (n : ℕ) (x : ℤ) → get_or changes n (pos 0) ≡ x → (of_z w32 x ≡ 0 → ⊥)
    → get_or changes n (pos 0) ≡ pos 0 → ⊥
change_is_not_zero changes n x read other e = other (ap (of_z w32) (sym read ∙ e))

-- the value at minute 0 is the first change
pub value-first : (changes : List ℤ) → AreChanges changes → value_in changes 0 ≡ get_or changes 0 (pos 0)
value-first changes valid =
    let l = valid.minutes in
    sum_of-more changes 0 (omega arith) ∙ omega (arith, ints)

-- two numbers of which neither is the greater
pub same_number : (a b : ℤ) → a ≤ℤ b → b ≤ℤ a → a ≡ b
same_number a b up down = omega (arith, ints)

-- the value of the minute before is the sum so far
value_before-sum : (changes : List ℤ) (n : ℕ) → value_before (value_in changes) n ≡ sum_of changes n
value_before-sum changes zero = refl
value_before-sum changes (suc n) = rw (add-one n) refl

-- whether a minute is a step: whether its change is not 0
is_step-change : (changes : List ℤ) (n : ℕ) → n < length changes
    → is_step (value_in changes) n ≡ not (int_eq (sum_of changes n +ℤ get_or changes n (pos 0)) (sum_of changes n))
is_step-change changes n h =
    λ i. not (int_eq (sum_of-more changes n h i) (value_before-sum changes n i))

-- a change of 0 is no step
pub steps_before-same : (changes : List ℤ) (n : ℕ) → n < length changes → get_or changes n (pos 0) ≡ pos 0
    → steps_before (value_in changes) (n + 1) ≡ steps_before (value_in changes) n
steps_before-same changes n h zero_change =
    let kept : (sum_of changes n +ℤ get_or changes n (pos 0)) ≡ sum_of changes n = rw zero_change (omega (arith, ints)) in
    let equal : int_eq (sum_of changes n +ℤ get_or changes n (pos 0)) (sum_of changes n) ≡ true = (Decides-int_eq _ _).1 kept in
    ap (steps_before (value_in changes)) (add-one n) ∙ steps_before-suc (value_in changes) n
    ∙ ap (λ b. steps_before (value_in changes) n ++ (if b then (n, value_in changes n) ∷ [] else []))
    (is_step-change changes n h ∙ ap not equal)
    ∙ append-nil (steps_before (value_in changes) n)

zero_from_same : (sum c : ℤ) → (sum +ℤ c) ≡ sum → c ≡ pos 0
zero_from_same sum c e = omega (arith, ints)

-- any other change is one
pub steps_before-step : (changes : List ℤ) (n : ℕ) (next : ℤ) → n < length changes → next ≡ sum_of changes (n + 1)
    → (get_or changes n (pos 0) ≡ pos 0 → ⊥)
    → steps_before (value_in changes) (n + 1) ≡ steps_before (value_in changes) n ++ (n, next) ∷ []
steps_before-step changes n next h is change =
    let differ : int_eq (sum_of changes n +ℤ get_or changes n (pos 0)) (sum_of changes n) ≡ false =
    false_from_ne_true _ (λ e. change (zero_from_same _ _ ((Decides-int_eq _ _).0 e))) in
    ap (steps_before (value_in changes)) (add-one n) ∙ steps_before-suc (value_in changes) n
    ∙ (λ i. steps_before (value_in changes) n ++ (if (is_step-change changes n h ∙ ap not differ) i then (n, sym is i) ∷ [] else []))

-- a number that is not below 0 is its absolute value
pub pos-nat_abs : (z : ℤ) → pos 0 ≤ℤ z → z ≡ pos (nat_abs z)
pos-nat_abs (pos n) h = refl
pos-nat_abs (negsuc n) h = absurd (omega (arith, ints))

-- one change raised, where x is the change as the code reads it
raised_sum : (changes : List ℤ) (n : ℕ) (x by : ℤ) → get_or changes n (pos 0) ≡ x → n < length changes → All IsChange changes
    → FitsSigned w32 by
    → (to_z w32 (of_z w32 x) +ℤ to_z w32 (of_z w32 by)) ≡ (get_or changes n (pos 0) +ℤ by)
raised_sum changes n x by read h bounded fits =
    λ i. (ap (λ z. to_z w32 (of_z w32 z)) (sym read) ∙ to_z-of_z w32 _ (change_fits changes n bounded h)) i +ℤ to_z-of_z w32 by fits i

-- it fits
pub raised-fits : (changes : List ℤ) (n : ℕ) (x by : ℤ) → get_or changes n (pos 0) ≡ x → n < length changes → All IsChange changes
    → FitsSigned w32 by
    → IsChange (get_or changes n (pos 0) +ℤ by) → FitsSigned w32 (to_z w32 (of_z w32 x) +ℤ to_z w32 (of_z w32 by))
raised-fits changes n x by read h bounded fits bound =
    subst (FitsSigned w32) (sym (raised_sum changes n x by read h bounded fits))
    (fits-between _ (omega (arith, ints, bound.0)) (omega (arith, ints, bound.1)))

-- and is the change with so much more
pub raised-is : (changes : List ℤ) (n : ℕ) (x by : ℤ) → get_or changes n (pos 0) ≡ x → n < length changes → All IsChange changes
    → FitsSigned w32 by
    → IsChange (get_or changes n (pos 0) +ℤ by)
    → to_z w32 (of_z w32 (to_z w32 (of_z w32 x) +ℤ to_z w32 (of_z w32 by))) ≡ (get_or changes n (pos 0) +ℤ by)
raised-is changes n x by read h bounded fits bound =
    to_z-of_z w32 _ (raised-fits changes n x by read h bounded fits bound) ∙ raised_sum changes n x by read h bounded fits

-- the changes of a place stay such as one is raised within its bounds
pub AreChanges-with : (changes : List ℤ) (n : ℕ) (by : ℤ) → AreChanges changes → n ≤ 8191 → IsChange (get_or changes n (pos 0) +ℤ by)
    → (n ≡ 0 → pos 0 ≤ℤ (get_or changes n (pos 0) +ℤ by))
    → AreChanges (with_change_in changes n by)
AreChanges-with changes n by valid h bound begins =
    let len = length-set changes n (get_or changes n (pos 0) +ℤ by) in
    record {
      minutes = len ∙ valid.minutes;
      bounded = All-set IsChange changes n _ bound valid.bounded;
      begins = ⊎_elim
          (λ (k : 0 < n). let other : 0 ≢ n = omega arith in rw get_or-set_other valid.begins)
          (λ (k : n ≤ 0).
          let z : n ≡ 0 = omega arith in
          let l = valid.minutes in
          let here : n < length changes = omega arith in
          subst (λ m. pos 0 ≤ℤ get_or (with_change_in changes n by) m (pos 0)) z (rw get_or-set_same (begins z)))
          (cases_lt 0 n);
    }
