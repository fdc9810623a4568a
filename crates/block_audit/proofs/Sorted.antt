-- A list of slots whose keys rise strictly is the only one of these slots whose keys rise.
use Rattle.std.proofs.Common.{◌≡◌, ◌⊎◌, inl, inr, ℕ, ◌+◌, ◌<◌, ◌≤◌, ◌==◌, Bool, true, false, cond, List, [], ◌∷◌, filter, refl, sym, ap}
use Rattle.std.proofs.Common.{subst, ◌∙◌, ⊎_elim, arith}
use Rattle.std.specs.List.{AllByRecursion}
use Rattle.std.proofs.lemmas.Bool.{cases_Bool, eq-eqb, eqb-true}
use Rattle.trip_model.specs.Blocking.{times, Follow, IsBlock}
use Rattle.trip_model.specs.Network.{Network, AreDepartures}
use Rattle.trip_model.specs.Order.{RiseBy}
use Rattle.trip_model.proofs.Counting.{times-cons}

-- keys that rise strictly
abbrev pub Climb : (ℕ → ℕ) → List ℕ → Type 0
Climb key [] = Unit {0}
Climb key (x ∷ xs) = AllByRecursion (λ y. key x < key y) xs × Climb key xs

-- what holds of each slot of a list, from how often it stands there
all-standing : (P : ℕ → Type 0) (xs : List ℕ) → AllByRecursion P xs → (s : ℕ) → 0 < times s xs → P s
all-standing P [] all s some = absurd (omega (arith, some))
all-standing P (x ∷ xs) all s some = ⊎_elim
    (λ (e : (x == s) ≡ true). subst P (eqb-true x s e) all.0)
    (λ (e : (x == s) ≡ false). let none : ◌≡◌ {A = ℕ} (cond (x == s) 1 0) 0 = ap (λ b. cond b 1 0) e in
    all-standing P xs all.1 s (omega (arith, some, times-cons s x xs, none)))
    (cases_Bool (x == s))

times-head : (x : ℕ) (xs : List ℕ) → times x (x ∷ xs) ≡ 1 + times x xs
times-head x xs = times-cons x x xs ∙ ap (λ b. cond b 1 0 + times x xs) (eq-eqb x x refl)

at-least : (x y : ℕ) (ys : List ℕ) → 0 < times x (y ∷ ys) → (y ≡ x) ⊎ (0 < times x ys)
at-least x y ys some = ⊎_elim
    (λ (e : (y == x) ≡ true). inl (eqb-true y x e))
    (λ (e : (y == x) ≡ false). let none : ◌≡◌ {A = ℕ} (cond (y == x) 1 0) 0 = ap (λ b. cond b 1 0) e in
    inr (omega (arith, some, times-cons x y ys, none)))
    (cases_Bool (y == x))

pub same-order : (key : ℕ → ℕ) (xs ys : List ℕ) → Climb key xs → RiseBy key ys → ((s : ℕ) → times s xs ≡ times s ys) → xs ≡ ys
same-order key [] [] climb rise same = refl
same-order key [] (y ∷ ys) climb rise same = absurd (omega (arith, same y, times-head y ys))
same-order key (x ∷ xs) [] climb rise same = absurd (omega (arith, same x, times-head x xs))
same-order key (x ∷ xs) (y ∷ ys) climb rise same =
    let heads : y ≡ x = ⊎_elim
    (λ (e : y ≡ x). e)
    (λ (later : 0 < times x ys).
    ⊎_elim
    (λ (e : x ≡ y). sym e)
    (λ (after : 0 < times y xs).
    let above : key x < key y = all-standing (λ z. key x < key z) xs climb.0 y after in
    let below : key y ≤ key x = all-standing (λ z. key y ≤ key z) ys rise.0 x later in
    absurd (omega (arith, above, below)))
    (at-least y x xs (omega (arith, same y, times-head y ys))))
    (at-least x y ys (omega (arith, same x, times-head x xs))) in
    let rest = same-order key xs ys climb.1 rise.1 (λ s.
    let one : ◌≡◌ {A = ℕ} (cond (x == s) 1 0) (cond (y == s) 1 0) = ap (λ z. cond (z == s) 1 0) (sym heads) in
    omega (arith, same s, times-cons s x xs, times-cons s y ys, one)) in
    λ i. sym heads i ∷ rest i

-- along trips that fit departures rise strictly
all-further : (key : ℕ → ℕ) (a b : ℕ) (xs : List ℕ) → key a < key b → AllByRecursion (λ y. key b < key y) xs
    → AllByRecursion (λ y. key a < key y) xs
all-further key a b [] before all = tt
all-further key a b (x ∷ xs) before all = (omega (arith, before, all.0), all-further key a b xs before all.1)

climb-after : (network : Network) (departs : ℕ → ℕ) → AreDepartures network departs → (i : ℕ) (js : List ℕ) → Follow network i js
    → Climb departs (i ∷ js)
climb-after network departs clock i [] follow = (tt, tt)
climb-after network departs clock i (j ∷ js) follow =
    let rest = climb-after network departs clock j js follow.1 in
    let before = clock.rises i j follow.0 in
    ((before, all-further departs i j js before rest.0), rest)

pub climb-block : (network : Network) (departs : ℕ → ℕ) → AreDepartures network departs → (block : List ℕ) → IsBlock network block
    → Climb departs block
climb-block network departs clock [] is = absurd is
climb-block network departs clock (i ∷ js) is = climb-after network departs clock i js is

-- keys still rise where some slots are left out
all-filter : (P : ℕ → Type 0) (p : ℕ → Bool) (xs : List ℕ) → AllByRecursion P xs → AllByRecursion P (filter p xs)
all-filter P p [] all = tt
all-filter P p (x ∷ xs) all = by (p x) (all-filter P p xs all.1)
  where
    by : (b : Bool) → AllByRecursion P (filter p xs) → AllByRecursion P (cond b (x ∷ filter p xs) (filter p xs))
    by true rest = (all.0, rest)
    by false rest = rest

pub rise-filter : (key : ℕ → ℕ) (p : ℕ → Bool) (xs : List ℕ) → RiseBy key xs → RiseBy key (filter p xs)
rise-filter key p [] rise = tt
rise-filter key p (x ∷ xs) rise = by (p x) (rise-filter key p xs rise.1)
  where
    by : (b : Bool) → RiseBy key (filter p xs) → RiseBy key (cond b (x ∷ filter p xs) (filter p xs))
    by true rest = (all-filter (λ y. key x ≤ key y) p xs rise.0, rest)
    by false rest = rest
