-- The steps of a function of the minute, one minute after another, and what they give back.
use Rattle.std.proofs.Common.{◌≡◌, ℕ, zero, suc, ◌+◌, ◌<◌, ◌≤◌, Bool, true, false, not, cond, List, [], ◌∷◌, ◌++◌, map, filter, fold, ℤ}
use Rattle.std.proofs.Common.{pos, nat_le, if◌then◌else◌, refl, sym, ap, ◌∙◌, ⊎_elim, arith}
use Rattle.std.specs.List.{range_with_len}
use Rattle.std.specs.Ordering.{int_eq}
use Rattle.std.proofs.lemmas.Bool.{cases_lt, le-leb, lt-leb, not-false}
use Rattle.std.proofs.lemmas.Bool.Decides.{Decides-int_eq}
use Rattle.std.proofs.lemmas.List.{map-append}
use Rattle.std.proofs.lemmas.List.Elements.{filter-append}
use Rattle.std.proofs.lemmas.List.Sums.{fold-append}
use Rattle.trip_model.specs.Steps.{value_before, is_step, steps_before, steps, value_of_steps}

-- one minute more
pub range_with_len-more : (a n : ℕ) → range_with_len a (suc n) ≡ range_with_len a n ++ (a + n) ∷ []
range_with_len-more a zero = let e : a ≡ a + 0 = omega arith in ap (λ x. x ∷ []) e
range_with_len-more a (suc n) =
    ap (λ xs. a ∷ xs) (range_with_len-more (a + 1) n
    ∙ (let e : a + 1 + n ≡ a + suc n = omega arith in ap (λ x. range_with_len (a + 1) n ++ x ∷ []) e))

-- the steps of one minute: none, or one
abbrev pub steps_at : (ℕ → ℤ) → ℕ → List (ℕ × ℤ)
steps_at d t = if is_step d t then (t, d t) ∷ [] else []

paired : (ℕ → ℤ) → List ℕ → List (ℕ × ℤ)
paired d ts = map {B = ℕ × ℤ} (λ t. (t, d t)) ts

steps_at-filter : (d : ℕ → ℤ) (t : ℕ) → paired d (filter (is_step d) (t ∷ [])) ≡ steps_at d t
unfolding paired
steps_at-filter d t = by (is_step d t)
  where
    by : (b : Bool) → map {B = ℕ × ℤ} (λ t. (t, d t)) (cond b (t ∷ []) []) ≡ (if b then (t, d t) ∷ [] else [])
    by true = refl
    by false = refl

pub steps_before-zero : (d : ℕ → ℤ) → steps_before d 0 ≡ []
unfolding steps_before
steps_before-zero d = refl

pub steps_before-suc : (d : ℕ → ℤ) (t : ℕ) → steps_before d (suc t) ≡ steps_before d t ++ steps_at d t
unfolding steps_before paired
steps_before-suc d t =
    ap (λ ts. paired d (filter (is_step d) ts))
    (range_with_len-more 0 t ∙ (let e : 0 + t ≡ t = omega arith in ap (λ x. range_with_len 0 t ++ x ∷ []) e))
    ∙ ap (paired d) (filter-append (is_step d) (range_with_len 0 t) (t ∷ []))
    ∙ map-append (λ t. (t, d t)) (filter (is_step d) (range_with_len 0 t)) (filter (is_step d) (t ∷ []))
    ∙ ap (λ xs. paired d (filter (is_step d) (range_with_len 0 t)) ++ xs) (steps_at-filter d t)

pub steps-at_end : (d : ℕ → ℤ) (end : ℕ) → end ≡ 8192 → steps_before d end ≡ steps d
unfolding steps
steps-at_end d end e = ap (steps_before d) e

-- one step read at t, where v was read before it
abbrev read_step : ℕ → ℤ → ℕ × ℤ → ℤ
read_step t v s = if nat_le s.0 t then s.1 else v

-- reading one minute more
value_of_steps-suc : (d : ℕ → ℤ) (n t : ℕ)
    → value_of_steps (steps_before d (suc n)) t ≡ fold (read_step t) (value_of_steps (steps_before d n) t) (steps_at d n)
value_of_steps-suc d n t =
    ap (λ list. value_of_steps list t) (steps_before-suc d n) ∙ fold-append (read_step t) (pos 0) (steps_before d n) (steps_at d n)

-- a minute that has come gives its own value, whether it has a step or not
read_at : (d : ℕ → ℤ) (n t : ℕ) (v : ℤ) → n ≤ t → v ≡ value_before d n → (b : Bool) → is_step d n ≡ b
    → fold (read_step t) v (if b then (n, d n) ∷ [] else []) ≡ d n
read_at d n t v h e true s = ap (λ b. if b then d n else v) (le-leb n t h)
read_at d n t v h e false s = e ∙ sym ((Decides-int_eq (d n) (value_before d n)).0 (not-false _ s))

-- a minute that has not come changes nothing
read_past : (d : ℕ → ℤ) (n t : ℕ) (v : ℤ) → t < n → (b : Bool) → fold (read_step t) v (if b then (n, d n) ∷ [] else []) ≡ v
read_past d n t v h true = ap (λ b. if b then d n else v) (lt-leb n t h)
read_past d n t v h false = refl

-- read after its end, a list of steps gives the value of the minute before the end
read_later : (d : ℕ → ℤ) (n t : ℕ) → n ≤ t → value_of_steps (steps_before d n) t ≡ value_before d n
read_later d zero t h = ap (λ list. value_of_steps list t) (steps_before-zero d)
read_later d (suc n) t h =
    value_of_steps-suc d n t ∙ read_at d n t _ (omega arith) (read_later d n t (omega arith)) _ refl

-- read before its end, it gives the value of the minute
pub value_of_steps_before : (d : ℕ → ℤ) (n t : ℕ) → t < n → value_of_steps (steps_before d n) t ≡ d t
value_of_steps_before d zero t h = absurd (omega arith)
value_of_steps_before d (suc n) t h = ⊎_elim
    (λ (k : t < n). value_of_steps-suc d n t ∙ read_past d n t _ k (is_step d n) ∙ value_of_steps_before d n t k)
    (λ (k : n ≤ t).
    let e : n ≡ t = omega arith in
    value_of_steps-suc d n t ∙ read_at d n t _ k (read_later d n t k) _ refl ∙ ap d e)
    (cases_lt t n)

-- the steps of all minutes
pub value_of_steps-steps : (d : ℕ → ℤ) (end t : ℕ) → end ≡ 8192 → t < end → value_of_steps (steps d) t ≡ d t
value_of_steps-steps d end t e h =
    ap (λ list. value_of_steps list t) (sym (steps-at_end d end e)) ∙ value_of_steps_before d end t h

-- the value in the minute before, of functions that agree
value_before-agree : (d e : ℕ → ℤ) (n t : ℕ) → ((t : ℕ) → t < n → d t ≡ e t) → t < n → value_before d t ≡ value_before e t
value_before-agree d e n zero same h = refl
value_before-agree d e n (suc t) same h = same t (omega arith)

-- functions that agree at every minute have the same steps
steps_before-agree : (d e : ℕ → ℤ) (n : ℕ) → ((t : ℕ) → t < n → d t ≡ e t) → steps_before d n ≡ steps_before e n
steps_before-agree d e zero same = steps_before-zero d ∙ sym (steps_before-zero e)
steps_before-agree d e (suc n) same =
    steps_before-suc d n
    ∙ (let before = steps_before-agree d e n (λ t h. same t (omega arith)) in
    let here = same n (omega arith) in
    let was = value_before-agree d e (suc n) n same (omega arith) in
    λ i. before i ++ (if not (int_eq (here i) (was i)) then (n, here i) ∷ [] else []))
    ∙ sym (steps_before-suc e n)

pub steps-agree : (d e : ℕ → ℤ) → (end : ℕ) → end ≡ 8192 → ((t : ℕ) → t < end → d t ≡ e t) → steps d ≡ steps e
steps-agree d e end is same = sym (steps-at_end d end is) ∙ steps_before-agree d e end same ∙ steps-at_end e end is
