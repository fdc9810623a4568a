-- Deficits with an added move, and what follows from the moves that they hold.
use Rattle.std.proofs.Common.{◌≡◌, ◌≢◌, ℕ, zero, suc, ◌+◌, ◌<◌, ◌≤◌, Bool, true, false, cond, ◌==◌, ◌&&◌, nat_le, List, [], ◌∷◌, ◌++◌}
use Rattle.std.proofs.Common.{length, get_or, set, fold, take, count_by, All, ℤ, pos, neg_ℤ, ◌+ℤ◌, ◌-ℤ◌, ◌≤ℤ◌, ◌<ℤ◌, if◌then◌else◌, refl}
use Rattle.std.proofs.Common.{sym, ap, subst, ◌∙◌, ⊎_elim, add-one, arith}
use lib.IntN.{negsuc}
use Rattle.std.proofs.lemmas.Bool.{cases_eq, eq-eqb, ne_eqb, and_left, and_right}
use Rattle.std.proofs.lemmas.Bool.Decides.{nat_tests}
use Rattle.std.proofs.lemmas.Int.{ints}
use Rattle.std.proofs.lemmas.List.Elements.{All-set}
use Rattle.std.proofs.lemmas.List.{length-set, get_or_default, get_or-set_same, get_or-set_other}
use Rattle.std.proofs.lemmas.List.Sums.{sum_by-cons, sum_by_push, count_by-le-length}
use Rattle.trip_model.specs.declared.trip.Move.{Move}
use Rattle.trip_model.specs.Deficit.{departures, arrivals, deficit}
use Rattle.trip_model.specs.Maximum.{first_maximum, sum_of_maxima}
use Rattle.trip_model.proofs.MaximumLemmas.{first_maximum-le, first_maximum-agree}
use Rattle.deficit_steps.specs.Changes.{IsChange, AreChanges, IsDeficits, changes_of, change_at, value, with_change_in, with_change}
use Rattle.deficit_steps.specs.Changes.{with_move, without_move}
use Rattle.deficit_steps.specs.Holds.{leaving, arriving, Holds}
use Rattle.deficit_steps.proofs.RowLemmas.{sum_of-more, AreChanges-with}

-- a count of what passes one of two tests that no element passes both
count_by-either : {X : Type 0} (p q r : X → Bool) → ((x : X) → cond (r x) 1 0 ≡ cond (p x) 1 0 + cond (q x) 1 0) → (xs : List X)
    → count_by r xs ≡ count_by p xs + count_by q xs
count_by-either p q r one [] = refl
count_by-either p q r one (x ∷ xs) =
    let a = sum_by-cons (λ x. cond (r x) 1 0) x xs in
    let b = sum_by-cons (λ x. cond (p x) 1 0) x xs in
    let d = sum_by-cons (λ x. cond (q x) 1 0) x xs in
    let rest = count_by-either p q r one xs in
    omega (arith, a, b, d, rest, one x)

-- at or before the next minute: at or before this one, or in the next
either_minute : (b : Bool) (a t : ℕ) → cond (b && nat_le a (suc t)) 1 0 ≡ cond (b && nat_le a t) 1 0 + cond (b && (a == suc t)) 1 0
either_minute true a t = grind (arith, nat_tests)
either_minute false a t = refl

first_minute : (b : Bool) (a : ℕ) → ◌≡◌ {A = ℕ} (cond (b && nat_le a 0) 1 0) (cond (b && (a == 0)) 1 0)
first_minute true a = grind (arith, nat_tests)
first_minute false a = refl

count_by-same : {X : Type 0} (p q : X → Bool) → ((x : X) → ◌≡◌ {A = ℕ} (cond (p x) 1 0) (cond (q x) 1 0)) → (xs : List X)
    → count_by p xs ≡ count_by q xs
count_by-same p q one [] = refl
count_by-same p q one (x ∷ xs) =
    sum_by-cons (λ x. cond (p x) 1 0) x xs ∙ (λ i. one x i + count_by-same p q one xs i) ∙ sym (sum_by-cons (λ x. cond (q x) 1 0) x xs)

departures-suc : (moves : List Move) (place t : ℕ) → departures moves place (suc t) ≡ departures moves place t + leaving moves place (suc t)
departures-suc moves place t =
    count_by-either (λ m. (m.from == place) && nat_le m.leaves t) (λ m. (m.from == place) && (m.leaves == suc t))
    (λ m. (m.from == place) && nat_le m.leaves (suc t)) (λ m. either_minute (m.from == place) m.leaves t) moves

arrivals-suc : (moves : List Move) (place t : ℕ) → arrivals moves place (suc t) ≡ arrivals moves place t + arriving moves place (suc t)
arrivals-suc moves place t =
    count_by-either (λ m. (m.to == place) && nat_le m.arrives t) (λ m. (m.to == place) && (m.arrives == suc t))
    (λ m. (m.to == place) && nat_le m.arrives (suc t)) (λ m. either_minute (m.to == place) m.arrives t) moves

departures-zero : (moves : List Move) (place : ℕ) → departures moves place 0 ≡ leaving moves place 0
departures-zero moves place =
    count_by-same (λ m. (m.from == place) && nat_le m.leaves 0) (λ m. (m.from == place) && (m.leaves == 0))
    (λ m. first_minute (m.from == place) m.leaves) moves

arrivals-zero : (moves : List Move) (place : ℕ) → arrivals moves place 0 ≡ arriving moves place 0
arrivals-zero moves place =
    count_by-same (λ m. (m.to == place) && nat_le m.arrives 0) (λ m. (m.to == place) && (m.arrives == 0))
    (λ m. first_minute (m.to == place) m.arrives) moves

-- the value at minute 0, and from one minute to the next
value-zero : (deficits : List (List ℤ)) (place : ℕ) → AreChanges (changes_of deficits place)
    → value deficits place 0 ≡ change_at deficits place 0
value-zero deficits place valid =
    let l = valid.minutes in
    sum_of-more (changes_of deficits place) 0 (omega arith) ∙ omega (arith, ints)

value-suc : (deficits : List (List ℤ)) (place t : ℕ) → AreChanges (changes_of deficits place) → suc t ≤ 8191
    → value deficits place (suc t) ≡ value deficits place t +ℤ change_at deficits place (suc t)
value-suc deficits place t valid h =
    let l = valid.minutes in
    sum_of-more (changes_of deficits place) (suc t) (omega arith)
    ∙ ap (λ n. fold ◌+ℤ◌ (pos 0) (take n (changes_of deficits place)) +ℤ change_at deficits place (suc t)) (sym (add-one t))

-- where moves are held, the value is their deficit
pub value-held : (deficits : List (List ℤ)) (moves : List Move) (place : ℕ) → AreChanges (changes_of deficits place) → Holds deficits moves
    → place < length deficits
    → (t : ℕ) → t ≤ 8191 → value deficits place t ≡ deficit moves place t
value-held deficits moves place valid held there zero h =
    value-zero deficits place valid ∙ held.change place 0 there h
    ∙ (λ i. pos (sym (departures-zero moves place) i) -ℤ pos (sym (arrivals-zero moves place) i))
value-held deficits moves place valid held there (suc t) h =
    let before = value-held deficits moves place valid held there t (omega arith) in
    let next = value-suc deficits place t valid h in
    let change = held.change place (suc t) there h in
    let dep = departures-suc moves place t in
    let arr = arrivals-suc moves place t in
    next ∙ (λ i. before i +ℤ change i)
    ∙ sums (departures moves place t) (arrivals moves place t) (leaving moves place (suc t)) (arriving moves place (suc t))
    ∙ (λ i. pos (sym dep i) -ℤ pos (sym arr i))
  where
    sums : (a b c d : ℕ) → ((pos a -ℤ pos b) +ℤ (pos c -ℤ pos d)) ≡ (pos (a + c) -ℤ pos (b + d))
    sums a b c d = omega (arith, ints)

-- no maximum is below 0
pub maximum-positive : (deficits : List (List ℤ)) (place : ℕ) → AreChanges (changes_of deficits place)
    → pos 0 ≤ℤ (first_maximum (value deficits place)).0
maximum-positive deficits place valid =
    first_maximum-le (value deficits place) (rw (value-zero deficits place valid) valid.begins)

-- the sum of the maxima of functions that agree
pub sum_of_maxima-agree : (d e : ℕ → ℕ → ℤ) (n : ℕ) → ((k t : ℕ) → k < n → t ≤ 8191 → d k t ≡ e k t) → sum_of_maxima d n ≡ sum_of_maxima e n
sum_of_maxima-agree d e zero same = refl
sum_of_maxima-agree d e (suc n) same =
    λ i. sum_of_maxima-agree d e n (λ k t h. same k t (omega arith)) i +ℤ
    (first_maximum-agree (d n) (e n) (λ t h. same n t (omega arith) h) i).0

-- a change is at most the number of the moves
pub change-held : (deficits : List (List ℤ)) (moves : List Move) (place minute : ℕ) → Holds deficits moves → place < length deficits
    → minute ≤ 8191
    → (neg_ℤ (pos (length moves)) ≤ℤ change_at deficits place minute) × (change_at deficits place minute ≤ℤ pos (length moves))
change-held deficits moves place minute held there h =
    let a = count_by-le-length (λ (m : Move). (m.from == place) && (m.leaves == minute)) moves in
    let b = count_by-le-length (λ (m : Move). (m.to == place) && (m.arrives == minute)) moves in
    rw (held.change place minute there h) (bounded (leaving moves place minute) (arriving moves place minute) (length moves) a b)
  where
    bounded : (x y n : ℕ) → x ≤ n → y ≤ n → (neg_ℤ (pos n) ≤ℤ (pos x -ℤ pos y)) × ((pos x -ℤ pos y) ≤ℤ pos n)
    bounded x y n a b = (omega (arith, ints), omega (arith, ints))

pub length-with_change : (deficits : List (List ℤ)) (place minute : ℕ) (by : ℤ)
    → length (with_change deficits place minute by) ≡ length deficits
unfolding with_change
length-with_change deficits place minute by = length-set deficits place _

-- the changes of a place as the code reads them from `rows`
pub row_read : (deficits rows : List (List ℤ)) (place p : ℕ) (row : List ℤ) → rows ≡ deficits → p ≡ place → place < length deficits
    → row ≡ get_or rows p row
    → row ≡ changes_of deficits place
row_read deficits rows place p row same at there read = read ∙ (λ i. get_or (same i) (at i) row)
    ∙ get_or_default deficits place row [] there

-- the deficits as the code writes one change: `rows` is what it reads, and `row` the one that it changes
pub row_written : (deficits rows : List (List ℤ)) (place p : ℕ) (row new : List ℤ) (minute : ℕ) (by : ℤ) → rows ≡ deficits → p ≡ place
    → place < length deficits
    → row ≡ get_or rows p row → new ≡ with_change_in row minute by → set rows p new ≡ with_change deficits place minute by
unfolding with_change
row_written deficits rows place p row new minute by same at there read written =
    let is = row_read deficits rows place p row same at there read in
    λ i. set (same i) (at i) ((written ∙ ap (λ r. with_change_in r minute by) is) i)

-- deficits stay such as one change is raised within its bounds
pub IsDeficits-with_change : (deficits : List (List ℤ)) (place minute : ℕ) (by : ℤ) → IsDeficits deficits → place < length deficits
    → minute ≤ 8191
    → IsChange (change_at deficits place minute +ℤ by) → (minute ≡ 0 → pos 0 ≤ℤ (change_at deficits place minute +ℤ by))
    → IsDeficits (with_change deficits place minute by)
unfolding with_change
IsDeficits-with_change deficits place minute by valid there h bound begins =
    let row = AreChanges-with (changes_of deficits place) minute by (valid.changes place [] there) h bound begins in
    let len = length-set deficits place (with_change_in (changes_of deficits place) minute by) in
    let few = valid.places in
    record {
      places = omega arith;
      changes = All-set AreChanges deficits place _ row valid.changes;
    }

-- the change of a place at a minute after one change was raised
change_at-with_change : (deficits : List (List ℤ)) (place minute : ℕ) (by : ℤ) (k t : ℕ) → place < length deficits
    → minute < length (changes_of deficits place)
    → change_at (with_change deficits place minute by) k t ≡ change_at deficits k t +ℤ (if (place == k) && (minute == t) then by else pos 0)
unfolding with_change
change_at-with_change deficits place minute by k t there in_row =
    let row = with_change_in (changes_of deficits place) minute by in
    let kept : (b : Bool) → (place == k) && (minute == t) ≡ b → b ≡ false
    → change_at deficits k t ≡ change_at deficits k t +ℤ (if (place == k) && (minute == t) then by else pos 0) =
    λ b e f. sym (ap (λ c. change_at deficits k t +ℤ (if c then by else pos 0)) (e ∙ f) ∙ plus_zero (change_at deficits k t)) in
    ⊎_elim
    (λ (same : place ≡ k).
    let here : changes_of (set deficits place row) k ≡ row = ap (changes_of (set deficits place row)) (sym same)
    ∙ get_or-set_same deficits place row [] there in
    ap (λ r. get_or r t (pos 0)) here ∙ ⊎_elim
    (λ (now : minute ≡ t).
    ap (λ m. get_or row m (pos 0)) (sym now) ∙ get_or-set_same (changes_of deficits place) minute _ (pos 0) in_row
    ∙ (λ i. change_at deficits (same i) (now i) +ℤ (if sym (both place k minute t same now) i then by else pos 0)))
    (λ (other : minute ≡ t → ⊥).
    get_or-set_other (changes_of deficits place) minute t _ (pos 0) (λ e. other (sym e))
    ∙ ap (λ p. change_at deficits p t) same
    ∙ kept _ refl (and_right (place == k) (minute == t) (ne_eqb minute t other)))
    (cases_eq minute t))
    (λ (other : place ≡ k → ⊥).
    ap (λ r. get_or r t (pos 0)) (get_or-set_other deficits place k row [] (λ e. other (sym e)))
    ∙ kept _ refl (and_left (place == k) (minute == t) (ne_eqb place k other)))
    (cases_eq place k)
  where
    plus_zero : (z : ℤ) → (z +ℤ pos 0) ≡ z
    plus_zero z = omega (arith, ints)

    both : (a b c d : ℕ) → a ≡ b → c ≡ d → (a == b) && (c == d) ≡ true
    both a b c d e f = λ i. eq-eqb a b e i && eq-eqb c d f i

-- a change at a later minute is as it was
change_at-later : (deficits : List (List ℤ)) (place minute : ℕ) (by : ℤ) (k t : ℕ) → place < length deficits
    → minute < length (changes_of deficits place) → minute < t
    → change_at (with_change deficits place minute by) k t ≡ change_at deficits k t
change_at-later deficits place minute by k t there in_row later =
    change_at-with_change deficits place minute by k t there in_row
    ∙ ap (λ b. change_at deficits k t +ℤ (if b then by else pos 0))
    (and_right (place == k) (minute == t) (ne_eqb minute t (let other : minute ≢ t = omega arith in other)))
    ∙ plus_zero (change_at deficits k t)
  where
    plus_zero : (z : ℤ) → (z +ℤ pos 0) ≡ z
    plus_zero z = omega (arith, ints)

raised_bound : (c : ℤ) → IsChange c → c <ℤ pos 65536 → IsChange (c +ℤ pos 1)
raised_bound c b h = (omega (arith, ints, b.0), omega (arith, ints))

lowered_bound : (c : ℤ) → IsChange c → negsuc 65535 <ℤ c → IsChange (c +ℤ neg_ℤ (pos 1))
lowered_bound c b h = (omega (arith, ints), omega (arith, ints, b.1))

-- deficits stay such as a move is added, after its departure and after its arrival
pub IsDeficits-with_move : (deficits : List (List ℤ)) (m : Move) → IsDeficits deficits → m.from < length deficits → m.to < length deficits
    → m.leaves < m.arrives → m.arrives ≤ 8191
    → change_at deficits m.from m.leaves <ℤ pos 65536 → negsuc 65535 <ℤ change_at deficits m.to m.arrives
    → IsDeficits (with_change deficits m.from m.leaves (pos 1)) × IsDeficits (with_move deficits m)
IsDeficits-with_move deficits m valid from to forward in_day raised lowered =
    let row = valid.changes m.from [] from in
    let len = row.minutes in
    let first : IsDeficits (with_change deficits m.from m.leaves (pos 1)) =
    IsDeficits-with_change deficits m.from m.leaves (pos 1) valid from (omega arith)
    (raised_bound _ (row.bounded m.leaves (pos 0) (omega arith)) raised)
    (λ z. let same = ap (change_at deficits m.from) z in let begins = row.begins in omega (arith, ints, same, begins)) in
    let there : m.to < length (with_change deficits m.from m.leaves (pos 1)) =
    omega (arith, length-with_change deficits m.from m.leaves (pos 1)) in
    let row_to = first.changes m.to [] there in
    let len_to = row_to.minutes in
    let same = change_at-later deficits m.from m.leaves (pos 1) m.to m.arrives from (omega arith) forward in (
      first,
      IsDeficits-with_change (with_change deficits m.from m.leaves (pos 1)) m.to m.arrives (neg_ℤ (pos 1)) first there in_day
          (lowered_bound _ (row_to.bounded m.arrives (pos 0) (omega arith)) (subst (λ c. negsuc 65535 <ℤ c) (sym same) lowered))
          (λ z. absurd (omega arith)),
    )

-- where moves were held, a move is held besides
pub Holds-with_move : (deficits : List (List ℤ)) (moves : List Move) (m : Move) → IsDeficits (with_change deficits m.from m.leaves (pos 1))
    → IsDeficits deficits
    → m.from < length deficits → m.to < length deficits → m.leaves ≤ 8191 → m.arrives ≤ 8191 → Holds deficits moves
    → Holds (with_move deficits m) (moves ++ m ∷ [])
Holds-with_move deficits moves m valid' valid from to leaves arrives held =
    let first = with_change deficits m.from m.leaves (pos 1) in
    let len = length-with_change deficits m.from m.leaves (pos 1) in
    let len2 = length-with_change first m.to m.arrives (neg_ℤ (pos 1)) in
    let row_from = (valid.changes m.from [] from).minutes in
    let row_to = (valid'.changes m.to [] (omega arith)).minutes in
    record {
      change = λ place minute there h.
          change_at-with_change first m.to m.arrives (neg_ℤ (pos 1)) place minute (omega arith) (omega arith)
          ∙ ap (λ c. c +ℤ (if (m.to == place) && (m.arrives == minute) then neg_ℤ (pos 1) else pos 0))
          (change_at-with_change deficits m.from m.leaves (pos 1) place minute from (omega arith)
          ∙ ap (λ c. c +ℤ (if (m.from == place) && (m.leaves == minute) then pos 1 else pos 0)) (held.change place minute (omega arith) h))
          ∙ counted ((m.from == place) && (m.leaves == minute)) ((m.to == place) && (m.arrives == minute)) (leaving moves place minute)
          (arriving moves place minute)
          ∙ (λ i. pos (sym (sum_by_push (λ n. cond ((n.from == place) && (n.leaves == minute)) 1 0) moves m) i) -ℤ pos
          (sym (sum_by_push (λ n. cond ((n.to == place) && (n.arrives == minute)) 1 0) moves m) i));
    }
  where
    counted : (a b : Bool) (x y : ℕ)
        → (((pos x -ℤ pos y) +ℤ (if a then pos 1 else pos 0)) +ℤ (if b then neg_ℤ (pos 1) else pos 0)) ≡ (pos (x + cond a 1 0) -ℤ pos
        (y + cond b 1 0))
    counted true true x y = omega (arith, ints)
    counted true false x y = omega (arith, ints)
    counted false true x y = omega (arith, ints)
    counted false false x y = omega (arith, ints)

-- deficits stay such as a move is taken away, after its departure and after its arrival
pub IsDeficits-without_move : (deficits : List (List ℤ)) (m : Move) → IsDeficits deficits → m.from < length deficits
    → m.to < length deficits → m.leaves < m.arrives → m.arrives ≤ 8191
    → negsuc 65535 <ℤ change_at deficits m.from m.leaves → change_at deficits m.to m.arrives <ℤ pos 65536
    → (m.leaves ≡ 0 → pos 0 <ℤ change_at deficits m.from 0)
    → IsDeficits (with_change deficits m.from m.leaves (neg_ℤ (pos 1))) × IsDeficits (without_move deficits m)
IsDeficits-without_move deficits m valid from to forward in_day lowered raised begins =
    let row = valid.changes m.from [] from in
    let len = row.minutes in
    let first : IsDeficits (with_change deficits m.from m.leaves (neg_ℤ (pos 1))) =
    IsDeficits-with_change deficits m.from m.leaves (neg_ℤ (pos 1)) valid from (omega arith)
    (lowered_bound _ (row.bounded m.leaves (pos 0) (omega arith)) lowered)
    (λ z. let same = ap (change_at deficits m.from) z in let above = begins z in omega (arith, ints, same, above)) in
    let there : m.to < length (with_change deficits m.from m.leaves (neg_ℤ (pos 1))) =
    omega (arith, length-with_change deficits m.from m.leaves (neg_ℤ (pos 1))) in
    let row_to = first.changes m.to [] there in
    let len_to = row_to.minutes in
    let same = change_at-later deficits m.from m.leaves (neg_ℤ (pos 1)) m.to m.arrives from (omega arith) forward in (
      first,
      IsDeficits-with_change (with_change deficits m.from m.leaves (neg_ℤ (pos 1))) m.to m.arrives (pos 1) first there in_day
          (raised_bound _ (row_to.bounded m.arrives (pos 0) (omega arith)) (subst (λ c. c <ℤ pos 65536) (sym same) raised))
          (λ z. absurd (omega arith)),
    )

-- a count with one element more in its middle
count_by-middle : {X : Type 0} (p : X → Bool) (before after : List X) (x : X)
    → count_by p (before ++ x ∷ after) ≡ count_by p (before ++ after) + cond (p x) 1 0
count_by-middle p [] after x = sum_by-cons (λ x. cond (p x) 1 0) x after ∙ omega arith
count_by-middle p (b ∷ before) after x =
    let whole = sum_by-cons (λ x. cond (p x) 1 0) b (before ++ x ∷ after) in
    let rest = sum_by-cons (λ x. cond (p x) 1 0) b (before ++ after) in
    omega (arith, whole, rest, count_by-middle p before after x)

-- where moves were held, they are held without the one that is taken away
pub Holds-without_move : (deficits : List (List ℤ)) (before after : List Move) (m : Move)
    → IsDeficits (with_change deficits m.from m.leaves (neg_ℤ (pos 1))) → IsDeficits deficits
    → m.from < length deficits → m.to < length deficits → m.leaves ≤ 8191 → m.arrives ≤ 8191 → Holds deficits (before ++ m ∷ after)
    → Holds (without_move deficits m) (before ++ after)
Holds-without_move deficits before after m valid' valid from to leaves arrives held =
    let first = with_change deficits m.from m.leaves (neg_ℤ (pos 1)) in
    let len = length-with_change deficits m.from m.leaves (neg_ℤ (pos 1)) in
    let len2 = length-with_change first m.to m.arrives (pos 1) in
    let row_from = (valid.changes m.from [] from).minutes in
    let row_to = (valid'.changes m.to [] (omega arith)).minutes in
    record {
      change = λ place minute there h.
          change_at-with_change first m.to m.arrives (pos 1) place minute (omega arith) (omega arith)
          ∙ ap (λ c. c +ℤ (if (m.to == place) && (m.arrives == minute) then pos 1 else pos 0))
          (change_at-with_change deficits m.from m.leaves (neg_ℤ (pos 1)) place minute from (omega arith)
          ∙ ap (λ c. c +ℤ (if (m.from == place) && (m.leaves == minute) then neg_ℤ (pos 1) else pos 0))
          (held.change place minute (omega arith) h
          ∙ (λ i. pos (count_by-middle (λ n. (n.from == place) && (n.leaves == minute)) before after m i) -ℤ pos
          (count_by-middle (λ n. (n.to == place) && (n.arrives == minute)) before after m i))))
          ∙ counted ((m.from == place) && (m.leaves == minute)) ((m.to == place) && (m.arrives == minute))
          (leaving (before ++ after) place minute) (arriving (before ++ after) place minute);
    }
  where
    counted : (a b : Bool) (x y : ℕ)
        → (((pos (x + cond a 1 0) -ℤ pos (y + cond b 1 0)) +ℤ (if a then neg_ℤ (pos 1) else pos 0)) +ℤ (if b then pos 1 else pos 0)) ≡ (pos
        x -ℤ pos y)
    counted true true x y = omega (arith, ints)
    counted true false x y = omega (arith, ints)
    counted false true x y = omega (arith, ints)
    counted false false x y = omega (arith, ints)

-- nothing that leaves before it arrives arrives in minute 0
none-arrive : (moves : List Move) (place : ℕ) → All (λ n. n.leaves < n.arrives) moves → arriving moves place 0 ≡ 0
none-arrive [] place forward = refl
none-arrive (n ∷ moves) place forward =
    let late : n.leaves < n.arrives = forward 0 n (omega arith) in
    let other : n.arrives ≢ 0 = omega arith in
    let here = and_right (n.to == place) (n.arrives == 0) (ne_eqb n.arrives 0 other) in
    sum_by-cons (λ (n : Move). cond ((n.to == place) && (n.arrives == 0)) 1 0) n moves
    ∙ (λ i. cond (here i) 1 0 + none-arrive moves place (λ s d h. forward (suc s) d (omega arith)) i)

-- the change in minute 0 of a place that a held move leaves then
pub begins-held : (deficits : List (List ℤ)) (before after : List Move) (m : Move) → Holds deficits (before ++ m ∷ after)
    → All (λ n. n.leaves < n.arrives) (before ++ m ∷ after)
    → m.from < length deficits → m.leaves ≡ 0 → pos 0 <ℤ change_at deficits m.from 0
begins-held deficits before after m held forward from z =
    let here : (m.from == m.from) && (m.leaves == 0) ≡ true = λ i. eq-eqb m.from m.from refl i && eq-eqb m.leaves 0 z i in
    let one : ◌≡◌ {A = ℕ} (cond ((m.from == m.from) && (m.leaves == 0)) 1 0) 1 = ap (λ b. cond b 1 0) here in
    let counts = count_by-middle (λ n. (n.from == m.from) && (n.leaves == 0)) before after m in
    let none = none-arrive (before ++ m ∷ after) m.from forward in
    let at_least : 0 < leaving (before ++ m ∷ after) m.from 0 = omega (arith, counts, one) in
    rw (held.change m.from 0 from (omega arith)) (rw none (above (leaving (before ++ m ∷ after) m.from 0) at_least))
  where
    above : (n : ℕ) → 0 < n → pos 0 <ℤ (pos n -ℤ pos 0)
    above n h = omega (arith, ints)
