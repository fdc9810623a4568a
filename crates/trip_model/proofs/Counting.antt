-- Sums over lists in which each live slot stands once, and over the numbers below a bound.
use Rattle.std.proofs.Common.{◌≡◌, ◌≢◌, ℕ, zero, suc, ◌+◌, ◌<◌, ◌≤◌, ◌==◌, ◌&&◌, Bool, true, false, cond, nat_lt, List, [], ◌∷◌, ◌++◌}
use Rattle.std.proofs.Common.{length, get_or, filter, sum_by, count_by, Option, None, Some, refl, sym, ap, subst, ◌∙◌, ⊎_elim, arith}
use Rattle.std.specs.List.{range_with_len, remove}
use Rattle.std.specs.Option.{is_some}
use Rattle.std.proofs.lemmas.Bool.{cases_Bool, cases_eq, cases_lt, lt-ltb, and_right, false≢true, eq-eqb, ne_eqb, eqb-true}
use Rattle.std.proofs.lemmas.Bool.Decides.{nat_tests}
use Rattle.std.proofs.lemmas.List.{get_or_past}
use Rattle.std.proofs.lemmas.List.Elements.{filter-append}
use Rattle.std.proofs.lemmas.List.Sums.{sum_by-cons, sum_by-append, sum_by-remove}
use Rattle.trip_model.specs.declared.trip.Move.{Move}
use Rattle.trip_model.specs.Blocking.{times, StandsOnce}
use Rattle.trip_model.specs.Plain.{move_at, made, live_slots}
use Rattle.trip_model.proofs.StepsLemmas.{range_with_len-more}

-- the sum of a function of the numbers below n
abbrev pub sum_below : (ℕ → ℕ) → ℕ → ℕ
sum_below f zero = 0
sum_below f (suc n) = sum_below f n + f n

pub sum_below-le : (f g : ℕ → ℕ) (n : ℕ) → ((s : ℕ) → s < n → f s ≤ g s) → sum_below f n ≤ sum_below g n
sum_below-le f g zero le = omega arith
sum_below-le f g (suc n) le = omega (arith, sum_below-le f g n (λ s h. le s (omega arith)), le n (omega arith))

pub sum_below-same : (f g : ℕ → ℕ) (n : ℕ) → ((s : ℕ) → s < n → f s ≡ g s) → sum_below f n ≡ sum_below g n
sum_below-same f g zero same = refl
sum_below-same f g (suc n) same = omega (arith, sum_below-same f g n (λ s h. same s (omega arith)), same n (omega arith))

pub sum_below-add : (f g : ℕ → ℕ) (n : ℕ) → sum_below (λ s. f s + g s) n ≡ sum_below f n + sum_below g n
sum_below-add f g zero = refl
sum_below-add f g (suc n) = omega (arith, sum_below-add f g n)

pub sum_below-zero : (f : ℕ → ℕ) (n : ℕ) → ((s : ℕ) → s < n → f s ≡ 0) → sum_below f n ≡ 0
sum_below-zero f zero none = refl
sum_below-zero f (suc n) none = omega (arith, sum_below-zero f n (λ s h. none s (omega arith)), none n (omega arith))

-- one term more in one place
pub sum_below-raised : (f g : ℕ → ℕ) (n i c : ℕ) → i < n → g i ≡ f i + c → ((s : ℕ) → s ≢ i → g s ≡ f s) → sum_below g n ≡ sum_below f n + c
sum_below-raised f g zero i c within here other = absurd (omega arith)
sum_below-raised f g (suc n) i c within here other = ⊎_elim
    (λ (e : n ≡ i).
    let below = sum_below-same g f n (λ s h. other s (let ne : s ≢ i = omega arith in ne)) in
    let at : g n ≡ f n + c = subst (λ x. g x ≡ f x + c) (sym e) here in
    omega (arith, below, at))
    (λ (ne : n ≡ i → ⊥).
    let below = sum_below-raised f g n i c (omega arith) here other in
    omega (arith, below, other n ne))
    (cases_eq n i)

-- the first term apart
sum_below-front : (f : ℕ → ℕ) (n : ℕ) → sum_below f (suc n) ≡ f 0 + sum_below (λ s. f (suc s)) n
sum_below-front f zero = omega arith
sum_below-front f (suc n) = omega (arith, sum_below-front f n)

-- a sum over a list as a sum over its indices
pub sum_below-list : {X : Type 0} (g : X → ℕ) (xs : List X) (d : X) → sum_below (λ s. g (get_or xs s d)) (length xs) ≡ sum_by g xs
sum_below-list g [] d = refl
sum_below-list g (x ∷ xs) d =
    sum_below-front (λ s. g (get_or (x ∷ xs) s d)) (length xs) ∙ ap (λ n. g x + n) (sum_below-list g xs d) ∙ sym (sum_by-cons g x xs)

-- what a function of a move gives at a slot, and 0 where no trip runs
abbrev pub over : (Move → ℕ) → Option Move → ℕ
over g None = 0
over g (Some m) = g m

sum_by-made : (g : Move → ℕ) (moves : List (Option Move)) → sum_by g (made moves) ≡ sum_by (over g) moves
sum_by-made g [] = refl
sum_by-made g (None ∷ moves) = omega (arith, sum_by-made g moves, sum_by-cons (over g) None moves)
sum_by-made g (Some m ∷ moves) =
    sum_by-cons g m (made moves) ∙ ap (λ n. g m + n) (sum_by-made g moves) ∙ sym (sum_by-cons (over g) (Some m) moves)

-- a sum over the moves that are made, as a sum over the slots
pub sum_below-made : (g : Move → ℕ) (moves : List (Option Move))
    → sum_below (λ s. over g (move_at moves s)) (length moves) ≡ sum_by g (made moves)
sum_below-made g moves = sum_below-list (over g) moves None ∙ sym (sum_by-made g moves)

-- a sum over the numbers that pass a test
pub sum_by-filter_range : (q : ℕ → Bool) (f : ℕ → ℕ) (n : ℕ)
    → sum_by f (filter q (range_with_len 0 n)) ≡ sum_below (λ s. cond (q s) (f s) 0) n
sum_by-filter_range q f zero = refl
sum_by-filter_range q f (suc n) =
    ap (λ xs. sum_by f (filter q xs)) (range_with_len-more 0 n)
    ∙ ap (λ x. sum_by f (filter q (range_with_len 0 n ++ x ∷ []))) (let e : 0 + n ≡ n = omega arith in e)
    ∙ ap (sum_by f) (filter-append q (range_with_len 0 n) (n ∷ []))
    ∙ sum_by-append f (filter q (range_with_len 0 n)) (filter q (n ∷ []))
    ∙ (λ i. sum_by-filter_range q f n i + one (q n) i)
  where
    one : (b : Bool) → sum_by f (cond b (n ∷ []) []) ≡ cond b (f n) 0
    one true = let e = sum_by-cons f n [] in omega (arith, e)
    one false = refl

-- an element that passes stands somewhere
counted : {X : Type 0} (p : X → Bool) (xs : List X) (d : X) → 0 < count_by p xs → (i : ℕ) × (i < length xs) × (p (get_or xs i d) ≡ true)
counted p [] d some = absurd (omega arith)
counted p (x ∷ xs) d some = ⊎_elim
    (λ (yes : p x ≡ true). (0, omega arith, yes))
    (λ (no : p x ≡ false).
    let split = sum_by-cons (λ x. cond (p x) 1 0) x xs in
    let none : ◌≡◌ {A = ℕ} (cond (p x) 1 0) 0 = ap (λ b. cond b 1 0) no in
    let rest = counted p xs d (omega (arith, split, none)) in
    (suc rest.0, omega (arith, rest.1), rest.2))
    (cases_Bool (p x))

pub times-cons : (s x : ℕ) (xs : List ℕ) → times s (x ∷ xs) ≡ cond (x == s) 1 0 + times s xs
times-cons s x xs = sum_by-cons (λ y. cond (y == s) 1 0) x xs

times-head : (x : ℕ) (xs : List ℕ) → times x (x ∷ xs) ≡ 1 + times x xs
times-head x xs = times-cons x x xs ∙ ap (λ b. cond b 1 0 + times x xs) (eq-eqb x x refl)

-- lists in which each number stands as often have the same sums
pub sum_by-times : (f : ℕ → ℕ) (xs ys : List ℕ) → ((s : ℕ) → times s xs ≡ times s ys) → sum_by f xs ≡ sum_by f ys
sum_by-times f [] [] same = refl
sum_by-times f [] (y ∷ ys) same = absurd (omega (arith, same y, times-head y ys))
sum_by-times f (x ∷ xs) ys same =
    let there = counted (λ y. y == x) ys 0 (omega (arith, same x, times-head x xs)) in
    let is : get_or ys there.0 0 ≡ x = eqb-true (get_or ys there.0 0) x there.2 in
    let rest = sum_by-times f xs (remove ys there.0) (λ s.
    let taken = sum_by-remove (λ y. cond (y == s) 1 0) ys there.0 0 there.1 in
    let one : ◌≡◌ {A = ℕ} (cond (get_or ys there.0 0 == s) 1 0) (cond (x == s) 1 0) = ap (λ y. cond (y == s) 1 0) is in
    omega (arith, taken, one, same s, times-cons s x xs)) in
    let taken = sum_by-remove f ys there.0 0 there.1 in
    let one : f (get_or ys there.0 0) ≡ f x = ap f is in
    omega (arith, sum_by-cons f x xs, rest, taken, one)

-- two lists in which each live slot stands once have the same sums
pub sum_by-standing : (live : ℕ → Bool) (f : ℕ → ℕ) (xs ys : List ℕ) → StandsOnce live xs → StandsOnce live ys → sum_by f xs ≡ sum_by f ys
sum_by-standing live f xs ys a b = sum_by-times f xs ys (λ s. a.once s ∙ sym (b.once s))

-- of the numbers below n that pass a test each stands once
one_below : (q : ℕ → Bool) (s n : ℕ) → sum_below (λ x. cond (q x) (cond (x == s) 1 0) 0) n ≡ cond (nat_lt s n && q s) 1 0
one_below q s zero = grind (arith, nat_tests)
one_below q s (suc n) = ⊎_elim
    (λ (e : n ≡ s).
    let none = one_below q s n in
    let here : ◌≡◌ {A = ℕ} (cond (q n) (cond (n == s) 1 0) 0) (cond (q s) 1 0) = (λ i. cond (q (e i)) (cond (eq-eqb n s e i) 1 0) 0) in
    grind (arith, nat_tests))
    (λ (ne : n ≡ s → ⊥).
    let below = one_below q s n in
    let here : ◌≡◌ {A = ℕ} (cond (q n) (cond (n == s) 1 0) 0) 0 = (λ i. cond (q n) (cond (ne_eqb n s ne i) 1 0) 0) ∙ zero_both (q n) in
    grind (arith, nat_tests))
    (cases_eq n s)
  where
    zero_both : (b : Bool) → ◌≡◌ {A = ℕ} (cond b 0 0) 0
    zero_both true = refl
    zero_both false = refl

-- so do the live ones below a bound
pub StandsOnce-filter_range : (live : ℕ → Bool) (n : ℕ) → ((s : ℕ) → live s ≡ true → s < n)
    → StandsOnce live (filter live (range_with_len 0 n))
StandsOnce-filter_range live n within = record {
  once = λ s. sum_by-filter_range live (λ x. cond (x == s) 1 0) n ∙ one_below live s n ∙ ap (λ b. cond b 1 0) (all s);
}
  where
    all : (s : ℕ) → nat_lt s n && live s ≡ live s
    all s = ⊎_elim
        (λ (e : live s ≡ true). ap (λ b. b && live s) (lt-ltb s n (within s e)))
        (λ (e : live s ≡ false). and_right (nat_lt s n) _ e ∙ sym e)
        (cases_Bool (live s))

-- a sum over a list in which each live slot stands once, as a sum over the numbers below a bound
pub sum_by-below : (live : ℕ → Bool) (f : ℕ → ℕ) (n : ℕ) (slots : List ℕ) → ((s : ℕ) → live s ≡ true → s < n)
    → ((s : ℕ) → live s ≡ false → f s ≡ 0)
    → StandsOnce live slots → sum_by f slots ≡ sum_below f n
sum_by-below live f n slots within none stands =
    sum_by-standing live f slots (filter live (range_with_len 0 n)) stands (StandsOnce-filter_range live n within)
    ∙ sum_by-filter_range live f n
    ∙ sum_below-same (λ s. cond (live s) (f s) 0) f n (λ s h. ⊎_elim
    (λ (e : live s ≡ true). ap (λ b. cond b (f s) 0) e)
    (λ (e : live s ≡ false). ap (λ b. cond b (f s) 0) e ∙ sym (none s e))
    (cases_Bool (live s)))

-- a slot whose trip runs is one of the slots
pub runs-within : (moves : List (Option Move)) (s : ℕ) → is_some (move_at moves s) ≡ true → s < length moves
runs-within moves s e = ⊎_elim
    (λ (h : s < length moves). h)
    (λ (h : length moves ≤ s). absurd (false≢true (sym (ap is_some (get_or_past moves s None h)) ∙ e)))
    (cases_lt s (length moves))

-- the slots whose trips run, each once
pub StandsOnce-live_slots : (moves : List (Option Move)) → StandsOnce (λ s. is_some (move_at moves s)) (live_slots moves)
StandsOnce-live_slots moves = StandsOnce-filter_range (λ s. is_some (move_at moves s)) (length moves) (runs-within moves)

-- a sum over a list in which each slot stands once whose trip runs is the sum over the moves that are made
pub sum_by-made_standing : (g : Move → ℕ) (moves : List (Option Move)) (slots : List ℕ) → StandsOnce (λ s. is_some (move_at moves s)) slots
    → sum_by (λ s. over g (move_at moves s)) slots ≡ sum_by g (made moves)
sum_by-made_standing g moves slots stands =
    sum_by-below (λ s. is_some (move_at moves s)) (λ s. over g (move_at moves s)) (length moves) slots (runs-within moves)
    (λ s. none (move_at moves s)) stands
    ∙ sum_below-made g moves
  where
    none : (m : Option Move) → is_some m ≡ false → over g m ≡ 0
    none None e = refl
    none (Some m) e = absurd (false≢true (sym e))

-- a list has as many elements as the sum of ones over it
pub length-ones : {X : Type 0} (xs : List X) → length xs ≡ sum_by (λ _. 1) xs
length-ones [] = refl
length-ones (x ∷ xs) = omega (arith, length-ones xs, sum_by-cons (λ _. 1) x xs)
