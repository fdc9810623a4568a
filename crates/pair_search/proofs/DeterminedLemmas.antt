-- What a search does step by step is what is computed from its start.
use Rattle.std.proofs.Common.{◌≡◌, ◌≢◌, ℕ, zero, suc, ◌+◌, ◌<◌, ◌≤◌, ◌&&◌, nat_lt, not, Bool, true, false, List, length, map, get_or}
use Rattle.std.proofs.Common.{Option, None, Some, if◌then◌else◌, refl, sym, ap, ◌∙◌, ⊎_elim, arith}
use Rattle.std.specs.Prelude.{IfSome, IfNone}
use Rattle.std.specs.List.{range_with_len}
use Rattle.std.proofs.lemmas.Bool.{cases_eq, cases_lt, lt-ltb, le-ltb}
use Rattle.std.proofs.lemmas.List.{ext_get_or}
use Rattle.std.proofs.lemmas.List.FromFn.{get_or-map-range_with_len, length-map-range_with_len}
use Rattle.pair_search.specs.Determined.{nearness, first_nearest, approached, dist_from}
use Rattle.pair_search.specs.Search.{at, is_done}

-- a list is computed entry by entry
pub map-is : {T : Type 0} (f : ℕ → T) (n : ℕ) (d : T) (xs : List T) → length xs ≡ n → ((i : ℕ) → i < n → get_or xs i d ≡ f i)
    → xs ≡ map f (range_with_len 0 n)
map-is f n d xs len each = ext_get_or d xs (map f (range_with_len 0 n)) (len ∙ sym (length-map-range_with_len f 0 n))
    (λ i lt. let below : i < n = omega (arith, lt, len) in each i below ∙ sym (get_or-map-range_with_len f 0 n i i d below (omega arith)))

-- a column that is done, or no nearer than the nearest before it, is passed over
skip : (m : ℕ) (done : List Bool) (dist : List ℕ) (bound : ℕ)
    → (is_done done m ≡ false → nearness dist bound (first_nearest m done dist bound) ≤ at dist m)
    → first_nearest (suc m) done dist bound ≡ first_nearest m done dist bound
skip m done dist bound far = by (is_done done m) refl
  where
    by : (b : Bool) → is_done done m ≡ b → first_nearest (suc m) done dist bound ≡ first_nearest m done dist bound
    by true e = ap (λ b. if not b && nat_lt (at dist m) (nearness dist bound (first_nearest m done dist bound)) then Some m
        else first_nearest m done dist bound) e
    by false e = ap (λ b. if not b && nat_lt (at dist m) (nearness dist bound (first_nearest m done dist bound)) then Some m
        else first_nearest m done dist bound) e
        ∙ ap (λ b. if b then Some m else first_nearest m done dist bound)
        (le-ltb (at dist m) (nearness dist bound (first_nearest m done dist bound)) (far e))

-- and one that is not done and nearer is the nearest so far
pick : (m : ℕ) (done : List Bool) (dist : List ℕ) (bound : ℕ) → is_done done m ≡ false
    → at dist m < nearness dist bound (first_nearest m done dist bound)
    → first_nearest (suc m) done dist bound ≡ Some m
pick m done dist bound undone near =
    ap (λ b. if not b && nat_lt (at dist m) (nearness dist bound (first_nearest m done dist bound)) then Some m
    else first_nearest m done dist bound) undone
    ∙ ap (λ b. if b then Some m else first_nearest m done dist bound)
    (lt-ltb (at dist m) (nearness dist bound (first_nearest m done dist bound)) near)

-- what is not reached by the bound, nor by a column that is not done, is not reached by the nearest
above : (m d : ℕ) (done : List Bool) (dist : List ℕ) (bound : ℕ) → d < bound → ((h : ℕ) → h < m → is_done done h ≡ false → d < at dist h)
    → d < nearness dist bound (first_nearest m done dist bound)
above zero d done dist bound low far = low
above (suc m) d done dist bound low far = by (above m d done dist bound low (λ h lt. far h (omega arith))) (is_done done m) refl
  where
    chosen : is_done done m ≡ false → d < nearness dist bound (first_nearest m done dist bound) → (b : Bool)
        → d < nearness dist bound (if b then Some m else first_nearest m done dist bound)
    chosen e before true = far m (omega arith) e
    chosen e before false = before

    by : d < nearness dist bound (first_nearest m done dist bound) → (b : Bool) → is_done done m ≡ b
        → d < nearness dist bound (if not b && nat_lt (at dist m) (nearness dist bound (first_nearest m done dist bound)) then Some m
        else first_nearest m done dist bound)
    by before true e = before
    by before false e = chosen e before (nat_lt (at dist m) (nearness dist bound (first_nearest m done dist bound)))

-- where no column that is not done is nearer than the bound there is none
pub nearest-none : (m : ℕ) (done : List Bool) (dist : List ℕ) (bound : ℕ) → ((h : ℕ) → h < m → is_done done h ≡ false → bound ≤ at dist h)
    → first_nearest m done dist bound ≡ None
nearest-none zero done dist bound far = refl
nearest-none (suc m) done dist bound far =
    let before = nearest-none m done dist bound (λ h lt. far h (omega arith)) in
    skip m done dist bound (λ e. rw before (far m (omega arith) e)) ∙ before

-- the nearest column is the first of those that are as near
pub nearest-some : (m j : ℕ) (done : List Bool) (dist : List ℕ) (bound : ℕ) → j < m → is_done done j ≡ false → at dist j < bound
    → ((h : ℕ) → h < m → is_done done h ≡ false → at dist j ≤ at dist h)
    → ((h : ℕ) → h < j → is_done done h ≡ false → at dist j < at dist h)
    → first_nearest m done dist bound ≡ Some j
nearest-some zero j done dist bound within undone below least first = absurd (omega (arith, within))
nearest-some (suc m) j done dist bound within undone below least first = ⊎_elim
    (λ (e : m ≡ j).
    pick m done dist bound (ap (is_done done) e ∙ undone)
    (omega (arith, ap (at dist) e, above m (at dist j) done dist bound below (λ h lt. first h (omega (arith, lt, e))))) ∙ ap Some e)
    (λ (ne : m ≡ j → ⊥).
    let before = nearest-some m j done dist bound (omega (arith, within, ne)) undone below (λ h lt. least h (omega arith)) first in
    skip m done dist bound (λ e. rw before (least m (omega arith) e)) ∙ before)
    (cases_eq m j)

-- how far a column is once a row has looked at it
one-look : (fits : Option ℕ) (done : Bool) (cost far far' : ℕ) → far' ≤ far → ((k : ℕ) → done ≡ false → fits ≡ Some k → far' + k ≤ cost)
    → (far' < far → done ≡ false) → (far' < far → fits ≢ None)
    → ((k : ℕ) → far' < far → fits ≡ Some k → far' + k ≡ cost) → far' ≡ approached done fits cost far
one-look fits true cost far far' nearer covered undone reached exact = ⊎_elim
    (λ (lt : far' < far). let no : true ≡ false = undone lt in cc no)
    (λ (le : far ≤ far'). omega (arith, le, nearer))
    (cases_lt far' far)
one-look None false cost far far' nearer covered undone reached exact = ⊎_elim
    (λ (lt : far' < far). absurd (reached lt refl))
    (λ (le : far ≤ far'). omega (arith, le, nearer))
    (cases_lt far' far)
one-look (Some k) false cost far far' nearer covered undone reached exact = ⊎_elim
    (λ (lt : far' < far). let e = exact k lt refl in let c = covered k refl refl in omega (arith, e, c, lt))
    (λ (le : far ≤ far'). let c = covered k refl refl in omega (arith, c, le, nearer))
    (cases_lt far' far)

-- columns are as far as is computed once a row has looked at them
pub dist_from-is : (w : ℕ → Option ℕ) (start : ℕ) (enter : List ℕ) (done : List Bool) (dist dist' : List ℕ) → length dist' ≡ length dist
    → ((j : ℕ) → at dist' j ≤ at dist j)
    → ((j k : ℕ) → j < length dist → is_done done j ≡ false → w j ≡ Some k → at dist' j + k ≤ start + at enter j)
    → ((j : ℕ) → at dist' j < at dist j → is_done done j ≡ false) → ((j : ℕ) → at dist' j < at dist j → w j ≢ None)
    → ((j k : ℕ) → at dist' j < at dist j → w j ≡ Some k → at dist' j + k ≡ start + at enter j)
    → dist' ≡ dist_from w start enter done dist
dist_from-is w start enter done dist dist' len nearer covered undone fits exact =
    map-is (λ j. approached (is_done done j) (w j) (start + at enter j) (at dist j)) (length dist) 0 dist' len
    (λ j lt. one-look (w j) (is_done done j) (start + at enter j) (at dist j) (at dist' j) (nearer j) (λ k. covered j k lt) (undone j)
    (fits j) (λ k. exact j k))

-- what was found of all columns is the nearest, where it is at this distance, and the bound is where there is none
pub first_nearest-found : (column : Option ℕ) (distance bound : ℕ) (done : List Bool) (dist : List ℕ)
    → IfSome column (λ j. (j < length dist) × (is_done done j ≡ false) × (at dist j ≡ distance) × (distance < bound))
    → ((j : ℕ) → j < length dist → is_done done j ≡ false → distance ≤ at dist j)
    → IfSome column (λ j. (h : ℕ) → h < j → is_done done h ≡ false → distance < at dist h) → IfNone column (distance ≡ bound)
    → column ≡ first_nearest (length dist) done dist bound
first_nearest-found None distance bound done dist some least first none =
    sym (nearest-none (length dist) done dist bound (λ h lt undone. omega (arith, least h lt undone, none)))
first_nearest-found (Some j) distance bound done dist some least first none =
    sym (nearest-some (length dist) j done dist bound some.0 some.1 (omega (arith, some.2, some.3))
    (λ h lt undone. omega (arith, some.2, least h lt undone)) (λ h lt undone. omega (arith, some.2, first h lt undone)))
