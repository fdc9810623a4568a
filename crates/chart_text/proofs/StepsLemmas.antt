-- The steps of a function of the minute from some minute on, read one minute after another.
use Rattle.std.proofs.Common.{◌≡◌, ℕ, zero, suc, ◌+◌, ◌-◌, ◌<◌, ◌≤◌, Bool, true, false, cond, List, [], ◌∷◌, ◌++◌, map, length, get_or}
use Rattle.std.proofs.Common.{drop, filter, ℤ, pos, refl, sym, ap, subst, ◌∙◌, ⊎_elim, add-one, length-append, arith}
use Rattle.std.specs.List.{range_with_len}
use Rattle.std.proofs.lemmas.Bool.{cases_lt, not-false}
use Rattle.std.proofs.lemmas.Bool.Decides.{Decides-int_eq}
use Rattle.std.proofs.lemmas.List.{get_or_append_left}
use Rattle.std.proofs.Math.Seq.{get_or-append_seam}
use Rattle.trip_model.specs.Steps.{value_before, is_step, steps_before, steps}

-- the steps of d in n minutes from a minute on
unfoldable pub steps_from : (ℕ → ℤ) → ℕ → ℕ → List (ℕ × ℤ)
steps_from d first n = map {B = ℕ × ℤ} (λ t. (t, d t)) (filter (is_step d) (range_with_len first n))

-- all steps are those from minute 0 on
steps_from-all : (d : ℕ → ℤ) (n : ℕ) → n ≡ 8192 → steps d ≡ steps_from d 0 n
unfolding steps steps_before steps_from
steps_from-all d n all = sym (ap (steps_before d) all)

-- a minute that is a step, and one that is none
steps_from-step : (d : ℕ → ℤ) (first n : ℕ) → is_step d first ≡ true
    → steps_from d first (suc n) ≡ (first, d first) ∷ steps_from d (first + 1) n
unfolding steps_from
steps_from-step d first n e =
    let later = filter (is_step d) (range_with_len (first + 1) n) in
    ap (λ b. map {B = ℕ × ℤ} (λ t. (t, d t)) (cond b (first ∷ later) later)) e

steps_from-none : (d : ℕ → ℤ) (first n : ℕ) → is_step d first ≡ false → steps_from d first (suc n) ≡ steps_from d (first + 1) n
unfolding steps_from
steps_from-none d first n e =
    let later = filter (is_step d) (range_with_len (first + 1) n) in
    ap (λ b. map {B = ℕ × ℤ} (λ t. (t, d t)) (cond b (first ∷ later) later)) e

-- the minute of the first step of a list
abbrev first_minute : List (ℕ × ℤ) → ℕ
first_minute list = (get_or list 0 (0, pos 0)).0

-- no step is before the minute from which they are read
first_minute-later : (d : ℕ → ℤ) (first n : ℕ) → 1 ≤ length (steps_from d first n) → first ≤ first_minute (steps_from d first n)
unfolding steps_from
first_minute-later d first zero some = absurd (omega arith)
first_minute-later d first (suc n) some = by (is_step d first) refl some (first_minute-later d (first + 1) n)
  where
    by : (b : Bool) → is_step d first ≡ b → 1 ≤ length (steps_from d first (suc n))
        → (1 ≤ length (steps_from d (first + 1) n) → first + 1 ≤ first_minute (steps_from d (first + 1) n))
        → first ≤ first_minute (steps_from d first (suc n))
    by true e some later = let is = ap first_minute (steps_from-step d first n e) in omega arith
    by false e some later =
        let is = ap first_minute (steps_from-none d first n e) in
        let len = ap length (steps_from-none d first n e) in
        let after = later (omega arith) in
        omega arith

-- a minute whose step comes first gives its value, and leaves the later steps
pub read-step : (d : ℕ → ℤ) (minute n : ℕ) (rest : List (ℕ × ℤ)) → rest ≡ steps_from d minute (suc n) → 1 ≤ length rest
    → (get_or rest 0 (0, pos 0)).0 ≡ minute
    → ((get_or rest 0 (0, pos 0)).1 ≡ d minute) × (drop 1 rest ≡ steps_from d (minute + 1) n)
read-step d minute n rest is some here = by (is_step d minute) refl
  where
    by : (b : Bool) → is_step d minute ≡ b → ((get_or rest 0 (0, pos 0)).1 ≡ d minute) × (drop 1 rest ≡ steps_from d (minute + 1) n)
    by true e = let all = is ∙ steps_from-step d minute n e in
        (ap (λ (list : List (ℕ × ℤ)). (get_or list 0 (0, pos 0)).1) all, ap (drop 1) all)
    by false e =
        let all = is ∙ steps_from-none d minute n e in
        let len = ap length all in
        let first = ap first_minute all in
        let later = first_minute-later d (minute + 1) n (omega arith) in
        absurd (omega arith)

-- a minute whose step does not come first has the value of the minute before, and leaves all steps
pub read-none : (d : ℕ → ℤ) (minute n : ℕ) (rest : List (ℕ × ℤ)) → rest ≡ steps_from d minute (suc n)
    → (1 ≤ length rest → (get_or rest 0 (0, pos 0)).0 ≡ minute → ⊥)
    → (value_before d minute ≡ d minute) × (rest ≡ steps_from d (minute + 1) n)
read-none d minute n rest is other = by (is_step d minute) refl
  where
    by : (b : Bool) → is_step d minute ≡ b → (value_before d minute ≡ d minute) × (rest ≡ steps_from d (minute + 1) n)
    by true e =
        let all = is ∙ steps_from-step d minute n e in
        let len = ap length all in
        absurd (other (omega arith) (ap first_minute all))
    by false e = (sym ((Decides-int_eq (d minute) (value_before d minute)).0 (not-false _ e)), is ∙ steps_from-none d minute n e)

-- What is known before a minute is read: `rest` are the steps from it on, `value` is that of the minute before, and the values of
-- all minutes before were read.
pub record IsReadBefore (d : ℕ → ℤ) (minute : ℕ) (rest : List (ℕ × ℤ)) (value : ℤ) (values : List ℤ) : Type 0 where
  pub rest_is : rest ≡ steps_from d minute (8192 - minute)
  pub value_is : value ≡ value_before d minute
  pub minutes : length values ≡ minute
  pub values_are : (t : ℕ) → t < minute → get_or values t (pos 0) ≡ d t

-- before the first minute
pub IsReadBefore-start : (d : ℕ → ℤ) (list : List (ℕ × ℤ)) (values : List ℤ) → list ≡ steps d → values ≡ []
    → IsReadBefore d 0 list (pos 0) values
IsReadBefore-start d list values all none = record {
  rest_is = all ∙ steps_from-all d (8192 - 0) refl;
  value_is = refl;
  minutes = ap length none;
  values_are = λ t h. absurd (omega arith);
}

-- after one minute
pub IsReadBefore-next : (d : ℕ → ℤ) (minute : ℕ) (rest next_rest : List (ℕ × ℤ)) (value next_value : ℤ) (values next_values : List ℤ)
    → IsReadBefore d minute rest value values
    → next_rest ≡ steps_from d (minute + 1) (8192 - (minute + 1)) → next_value ≡ d minute → next_values ≡ values ++ next_value ∷ []
    → IsReadBefore d (minute + 1) next_rest next_value next_values
IsReadBefore-next d minute rest next_rest value next_value values next_values so_far rest_is value_is pushed = record {
  rest_is = rest_is;
  value_is = rw (add-one minute) value_is;
  minutes = let len = so_far.minutes in rw pushed (omega (arith, length-append values (next_value ∷ [])));
  values_are = λ t h.
      let len = so_far.minutes in
      rw pushed (⊎_elim
      (λ (before : t < minute). get_or_append_left values (next_value ∷ []) (pos 0) t (omega arith) ∙ so_far.values_are t before)
      (λ (now : minute ≤ t). let e : length values ≡ t = omega arith in let f : minute ≡ t = omega arith in
      subst (λ k. get_or (values ++ next_value ∷ []) k (pos 0) ≡ d t) e
      (get_or-append_seam values next_value [] (pos 0) ∙ value_is ∙ ap d f))
      (cases_lt t minute));
}
