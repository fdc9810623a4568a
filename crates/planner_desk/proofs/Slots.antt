-- The trip of a name in a list of slots, and what stays of it as one slot changes and as one is added.
use Rattle.std.proofs.Common.{◌≡◌, ◌≢◌, ℕ, zero, suc, ◌+◌, Bool, true, false, cond, not, List, [], ◌∷◌, ◌++◌, map, length, get_or, set}
use Rattle.std.proofs.Common.{Option, Some, None, refl, sym, ap, ◌∙◌, nat_lt, arith}
use Rattle.std.specs.List.{prefix_len}
use Rattle.std.specs.Option.{option_map}
use Rattle.std.specs.Str.{bytes_eq}
use Rattle.std.proofs.lemmas.Bool.Decides.{nat_tests}
use Rattle.std.proofs.lemmas.Slice.Eq.{bytes_eq-Decides}
use Rattle.trip_model.specs.declared.trip.Trip.{Trip}
use Rattle.trip_model.specs.Timetable.{Slot, number_of}

-- the trip of the first slot of that name
abbrev pub trip_among : List Slot → List ℕ → Option Trip
trip_among [] name = None
trip_among (s ∷ slots) name = cond (bytes_eq name s.name) (Some s.trip) (trip_among slots name)

-- the names of slots
abbrev pub names_of : List Slot → List (List ℕ)
names_of slots = map (λ (s : Slot). s.name) slots

-- the slot of that number, and past the last one any other
abbrev pub nth : Slot → List Slot → ℕ → Slot
nth other slots n = get_or slots n other

-- the slots with another trip in the one of that number
abbrev pub with_slot : Slot → List Slot → ℕ → Trip → List Slot
with_slot other slots n trip = set slots n (record (nth other slots n) { trip = trip })

counted : (n m : ℕ) → cond (nat_lt (1 + n) (suc m)) (Some (1 + n)) None ≡ option_map suc (cond (nat_lt n m) (Some n) None)
counted n m = by (nat_lt n m) (nat_lt (1 + n) (suc m)) (grind (arith, nat_tests))
  where
    by : (less more : Bool) → more ≡ less → cond more (Some (1 + n)) None ≡ option_map suc (cond less (Some n) None)
    by true more is = ap (λ b. cond b (Some (1 + n)) None) is ∙ ap Some (omega arith)
    by false more is = ap (λ b. cond b (Some (1 + n)) None) is

-- the number of a name in a list of names, by the first of them
pub number_of-first : (name first : List ℕ) (names : List (List ℕ))
    → number_of (first ∷ names) name ≡ cond (bytes_eq name first) (Some 0) (option_map suc (number_of names name))
number_of-first name first names = by (bytes_eq name first)
  where
    test : List ℕ → Bool
    test x = not (bytes_eq name x)

    at : Bool → Option ℕ
    at same = cond (nat_lt (cond (not same) (1 + prefix_len (λ x. not (bytes_eq name x)) names) 0) (suc (length names)))
        (Some (cond (not same) (1 + prefix_len (λ x. not (bytes_eq name x)) names) 0)) None

    by : (same : Bool) → cond (nat_lt (cond (not same) (1 + prefix_len (λ x. not (bytes_eq name x)) names) 0) (suc (length names)))
        (Some (cond (not same) (1 + prefix_len (λ x. not (bytes_eq name x)) names) 0)) None ≡ cond same (Some 0)
        (option_map suc (number_of names name))
    by true = grind (arith, nat_tests)
    by false = counted (prefix_len (λ x. not (bytes_eq name x)) names) (length names)

some-inj : (n m : ℕ) → Some n ≡ Some m → n ≡ m
some-inj n m e = cc

-- of a first slot and others: whether the first has the name, and the number of the name among the others
by_first : (s : Slot) (slots : List Slot) (name : List ℕ) (o : Option ℕ) → number_of (names_of (s ∷ slots)) name ≡ o
    → cond (bytes_eq name s.name) (Some 0) (option_map suc (number_of (names_of slots) name)) ≡ o
by_first s slots name o is = sym (number_of-first name s.name (names_of slots)) ∙ is

-- a slot that was found has its name's trip
Some-by_first : (other s : Slot) (slots : List Slot) (name : List ℕ) (n : ℕ) (same : Bool) (o : Option ℕ)
    → ((k : ℕ) → o ≡ Some k → trip_among slots name ≡ Some (nth other slots k).trip)
    → cond same (Some 0) (option_map suc o) ≡ Some n → cond same (Some s.trip) (trip_among slots name) ≡ Some (nth other (s ∷ slots) n).trip
Some-by_first other s slots name n true o rest e = ap (λ k. Some (nth other (s ∷ slots) k).trip) (some-inj 0 n e)
Some-by_first other s slots name n false None rest e = cc
Some-by_first other s slots name n false (Some k) rest e = rest k refl
    ∙ ap (λ k. Some (nth other (s ∷ slots) k).trip) (some-inj (suc k) n e)

pub trip_among-Some : (other : Slot) (slots : List Slot) (name : List ℕ) (n : ℕ) → number_of (names_of slots) name ≡ Some n
    → trip_among slots name ≡ Some (nth other slots n).trip
trip_among-Some other [] name n is = cc
trip_among-Some other (s ∷ slots) name n is =
    Some-by_first other s slots name n (bytes_eq name s.name) (number_of (names_of slots) name) (trip_among-Some other slots name)
    (by_first s slots name (Some n) is)

-- a name that was not found has no trip
None-by_first : (s : Slot) (slots : List Slot) (name : List ℕ) (same : Bool) (o : Option ℕ) → (o ≡ None → trip_among slots name ≡ None)
    → cond same (Some 0) (option_map suc o) ≡ None
    → cond same (Some s.trip) (trip_among slots name) ≡ None
None-by_first s slots name true o rest e = cc
None-by_first s slots name false None rest e = rest refl
None-by_first s slots name false (Some k) rest e = cc

pub trip_among-None : (slots : List Slot) (name : List ℕ) → number_of (names_of slots) name ≡ None → trip_among slots name ≡ None
trip_among-None [] name is = refl
trip_among-None (s ∷ slots) name is =
    None-by_first s slots name (bytes_eq name s.name) (number_of (names_of slots) name) (trip_among-None slots name)
    (by_first s slots name None is)

-- another trip in a slot that was found is the trip of that name
put-by_first : (other s : Slot) (slots : List Slot) (name : List ℕ) (trip : Trip) (n : ℕ) (same : Bool) → bytes_eq name s.name ≡ same
    → (o : Option ℕ)
    → ((k : ℕ) → o ≡ Some k → trip_among (with_slot other slots k trip) name ≡ Some trip) → cond same (Some 0) (option_map suc o) ≡ Some n
    → trip_among (with_slot other (s ∷ slots) n trip) name ≡ Some trip
put-by_first other s slots name trip zero true same o rest e = ap (λ b. cond b (Some trip) (trip_among slots name)) same
put-by_first other s slots name trip zero false same None rest e = cc
put-by_first other s slots name trip zero false same (Some k) rest e = absurd (omega (arith, some-inj (suc k) 0 e))
put-by_first other s slots name trip (suc m) true same o rest e = absurd (omega (arith, some-inj 0 (suc m) e))
put-by_first other s slots name trip (suc m) false same None rest e = cc
put-by_first other s slots name trip (suc m) false same (Some k) rest e =
    let at : k ≡ m = omega (arith, some-inj (suc k) (suc m) e) in
    ap (λ b. cond b (Some s.trip) (trip_among (with_slot other slots m trip) name)) same ∙ rest m (ap Some at)

pub trip_among-put : (other : Slot) (slots : List Slot) (name : List ℕ) (trip : Trip) (n : ℕ) → number_of (names_of slots) name ≡ Some n
    → trip_among (with_slot other slots n trip) name ≡ Some trip
trip_among-put other [] name trip n is = cc
trip_among-put other (s ∷ slots) name trip n is =
    put-by_first other s slots name trip n (bytes_eq name s.name) refl (number_of (names_of slots) name)
    (trip_among-put other slots name trip) (by_first s slots name (Some n) is)

-- a name other than that of a slot is not the slot's
not_here : (name asked here : List ℕ) → asked ≢ name → bytes_eq name here ≡ true → (b : Bool) → bytes_eq asked here ≡ b → b ≡ false
not_here name asked here differs same true e =
    absurd (differs ((bytes_eq-Decides asked here).0 e ∙ sym ((bytes_eq-Decides name here).0 same)))
not_here name asked here differs same false e = refl

-- another trip in a slot that was found leaves the trips of other names
other-by_first : (other s : Slot) (slots : List Slot) (name asked : List ℕ) (trip : Trip) → asked ≢ name → (n : ℕ) (same : Bool)
    → bytes_eq name s.name ≡ same → (o : Option ℕ)
    → ((k : ℕ) → o ≡ Some k → trip_among (with_slot other slots k trip) asked ≡ trip_among slots asked)
    → cond same (Some 0) (option_map suc o) ≡ Some n
    → trip_among (with_slot other (s ∷ slots) n trip) asked ≡ trip_among (s ∷ slots) asked
other-by_first other s slots name asked trip differs zero true same o rest e =
    let b = not_here name asked s.name differs same (bytes_eq asked s.name) refl in
    ap (λ b. cond b (Some trip) (trip_among slots asked)) b ∙ sym (ap (λ b. cond b (Some s.trip) (trip_among slots asked)) b)
other-by_first other s slots name asked trip differs zero false same None rest e = cc
other-by_first other s slots name asked trip differs zero false same (Some k) rest e = absurd (omega (arith, some-inj (suc k) 0 e))
other-by_first other s slots name asked trip differs (suc m) true same o rest e = absurd (omega (arith, some-inj 0 (suc m) e))
other-by_first other s slots name asked trip differs (suc m) false same None rest e = cc
other-by_first other s slots name asked trip differs (suc m) false same (Some k) rest e =
    let at : k ≡ m = omega (arith, some-inj (suc k) (suc m) e) in
    ap (λ found. cond (bytes_eq asked s.name) (Some s.trip) found) (rest m (ap Some at))

pub trip_among-other : (other : Slot) (slots : List Slot) (name asked : List ℕ) (trip : Trip) → asked ≢ name → (n : ℕ)
    → number_of (names_of slots) name ≡ Some n
    → trip_among (with_slot other slots n trip) asked ≡ trip_among slots asked
trip_among-other other [] name asked trip differs n is = refl
trip_among-other other (s ∷ slots) name asked trip differs n is =
    other-by_first other s slots name asked trip differs n (bytes_eq name s.name) refl (number_of (names_of slots) name)
    (trip_among-other other slots name asked trip differs) (by_first s slots name (Some n) is)

-- one more slot, of a new name, has that name's trip
new-by_first : (s : Slot) (slots more : List Slot) (name : List ℕ) (trip : Trip) (same : Bool)
    → (trip_among slots name ≡ None → trip_among more name ≡ Some trip)
    → cond same (Some s.trip) (trip_among slots name) ≡ None → cond same (Some s.trip) (trip_among more name) ≡ Some trip
new-by_first s slots more name trip true rest e = cc
new-by_first s slots more name trip false rest e = rest e

pub trip_among-new : (slots : List Slot) (name : List ℕ) (trip : Trip) → trip_among slots name ≡ None
    → trip_among (slots ++ record { name = name; trip = trip } ∷ []) name ≡ Some trip
trip_among-new [] name trip none = ap (λ b. cond b (Some trip) None) ((bytes_eq-Decides name name).1 refl)
trip_among-new (s ∷ slots) name trip none =
    new-by_first s slots (slots ++ record { name = name; trip = trip } ∷ []) name trip (bytes_eq name s.name)
    (trip_among-new slots name trip) none

-- and leaves the trips of other names
none_here : (asked name : List ℕ) (trip : Trip) → asked ≢ name → (b : Bool) → bytes_eq asked name ≡ b → cond b (Some trip) None ≡ None
none_here asked name trip differs true e = absurd (differs ((bytes_eq-Decides asked name).0 e))
none_here asked name trip differs false e = refl

pub trip_among-added : (slots : List Slot) (name asked : List ℕ) (trip : Trip) → asked ≢ name
    → trip_among (slots ++ record { name = name; trip = trip } ∷ []) asked ≡ trip_among slots asked
trip_among-added [] name asked trip differs = none_here asked name trip differs (bytes_eq asked name) refl
trip_among-added (s ∷ slots) name asked trip differs =
    ap (λ found. cond (bytes_eq asked s.name) (Some s.trip) found) (trip_among-added slots name asked trip differs)
