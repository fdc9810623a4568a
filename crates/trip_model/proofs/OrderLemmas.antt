-- Slots in order of departure, and of end: each stands once, keys rise, and a stable sort gives the order.
use Rattle.std.proofs.Common.{◌≡◌, ◌≢◌, ℕ, zero, suc, ◌+◌, ◌<◌, ◌≤◌, ◌==◌, ◌&&◌, not, nat_le, nat_lt, Bool, true, false, cond, List, []}
use Rattle.std.proofs.Common.{◌∷◌, ◌++◌, length, get_or, drop, filter, fold, sum_by, All, Option, None, Some, if◌then◌else◌, refl, sym, ap}
use Rattle.std.proofs.Common.{subst, ◌∙◌, append_assoc, ⊎_elim, Less, Equal, Greater, nat_cmp, arith}
use Rattle.std.specs.List.{range_with_len, AllByRecursion}
use Rattle.std.specs.List.Sorted.{IsNonDecreasingBy, IsStableByKey}
use Rattle.std.specs.Option.{is_some}
use Rattle.std.specs.Ordering.{is_lt}
use Rattle.std.proofs.lemmas.Bool.{leb-true, leb-false, eqb-true, eq-eqb, ne_eqb, cases_eq, cases_lt}
use Rattle.std.proofs.lemmas.Bool.Decides.{nat_tests}
use Rattle.std.proofs.lemmas.List.{length-map, append-nil}
use Rattle.std.proofs.Math.ListN.{get_or-map as get_or-map-any}
use Rattle.std.proofs.lemmas.List.Elements.{filter-append, recursion_from_All}
use Rattle.std.proofs.lemmas.List.Sums.{sum_by-cons}
use Rattle.trip_model.specs.declared.trip.Move.{Move}
use Rattle.trip_model.specs.Blocking.{StandsOnce}
use Rattle.trip_model.specs.Timetable.{TimetableView, Slot, slot_at}
use Rattle.trip_model.specs.Trip.{move_of}
use Rattle.trip_model.specs.Plain.{move_at, live_slots, move_of_slot, trip_moves}
use Rattle.trip_model.specs.Order.{minute_left, minute_arrived, placed_by, by_key, by_departure, by_end, RiseBy, TiesRise}
use Rattle.trip_model.proofs.Counting.{StandsOnce-live_slots}
use Rattle.trip_model.proofs.StepsLemmas.{range_with_len-more}

sum_by-placed : (f key : ℕ → ℕ) (xs : List ℕ) (s : ℕ) → sum_by f (placed_by key xs s) ≡ sum_by f xs + f s
sum_by-placed f key [] s = omega (arith, sum_by-cons f s [])
sum_by-placed f key (x ∷ xs) s = by (nat_le (key x) (key s)) (sum_by-placed f key xs s)
  where
    by : (b : Bool) → sum_by f (placed_by key xs s) ≡ sum_by f xs + f s
        → sum_by f (if b then x ∷ placed_by key xs s else s ∷ x ∷ xs) ≡ sum_by f (x ∷ xs) + f s
    by true e = omega (arith, e, sum_by-cons f x xs, sum_by-cons f x (placed_by key xs s))
    by false e = omega (arith, sum_by-cons f s (x ∷ xs))

sum_by-by_key : (f key : ℕ → ℕ) (front xs : List ℕ) → sum_by f (fold (placed_by key) front xs) ≡ sum_by f front + sum_by f xs
sum_by-by_key f key front [] = omega arith
sum_by-by_key f key front (x ∷ xs) =
    omega (arith, sum_by-by_key f key (placed_by key front x) xs, sum_by-placed f key front x, sum_by-cons f x xs)

-- each slot that runs stands once
StandsOnce-by_key : (key : ℕ → ℕ) (moves : List (Option Move)) → StandsOnce (λ s. is_some (move_at moves s)) (by_key key (live_slots moves))
StandsOnce-by_key key moves = record {
  once = λ s. sum_by-by_key (λ x. cond (x == s) 1 0) key [] (live_slots moves) ∙ zero_front _ ∙ (StandsOnce-live_slots moves).once s;
}
  where
    zero_front : (n : ℕ) → 0 + n ≡ n
    zero_front n = omega arith

pub StandsOnce-by_departure : (moves : List (Option Move)) → StandsOnce (λ s. is_some (move_at moves s)) (by_departure moves)
unfolding by_departure
StandsOnce-by_departure moves = StandsOnce-by_key (λ s. minute_left (move_at moves s)) moves

pub StandsOnce-by_end : (moves : List (Option Move)) → StandsOnce (λ s. is_some (move_at moves s)) (by_end moves)
unfolding by_end
StandsOnce-by_end moves = StandsOnce-by_key (λ s. minute_arrived (move_at moves s)) moves

all-placed : (P : ℕ → Type 0) (key : ℕ → ℕ) (xs : List ℕ) (s : ℕ) → AllByRecursion P xs → P s → AllByRecursion P (placed_by key xs s)
all-placed P key [] s all here = (here, tt)
all-placed P key (x ∷ xs) s all here = by (nat_le (key x) (key s)) (all-placed P key xs s all.1 here)
  where
    by : (b : Bool) → AllByRecursion P (placed_by key xs s) → AllByRecursion P (if b then x ∷ placed_by key xs s else s ∷ x ∷ xs)
    by true rest = (all.0, rest)
    by false rest = (here, all)

all-weaker : (P Q : ℕ → Type 0) → ((x : ℕ) → P x → Q x) → (xs : List ℕ) → AllByRecursion P xs → AllByRecursion Q xs
all-weaker P Q weaker [] all = tt
all-weaker P Q weaker (x ∷ xs) all = (weaker x all.0, all-weaker P Q weaker xs all.1)

rise-placed : (key : ℕ → ℕ) (xs : List ℕ) (s : ℕ) → RiseBy key xs → RiseBy key (placed_by key xs s)
rise-placed key [] s rise = (tt, tt)
rise-placed key (x ∷ xs) s rise = by (nat_le (key x) (key s)) refl (rise-placed key xs s rise.1)
  where
    by : (b : Bool) → nat_le (key x) (key s) ≡ b → RiseBy key (placed_by key xs s)
        → RiseBy key (if b then x ∷ placed_by key xs s else s ∷ x ∷ xs)
    by true e rest = (all-placed (λ y. key x ≤ key y) key xs s rise.0 (leb-true (key x) (key s) e), rest)
    by false e rest =
        let above : key s < key x = leb-false (key x) (key s) e in (
          (
            (let le : key s ≤ key x = omega arith in le),
            all-weaker (λ y. key x ≤ key y) (λ y. key s ≤ key y) (λ y h. omega arith) xs
                rise.0,
          ),
          rise,
        )

rise-by_key : (key : ℕ → ℕ) (front xs : List ℕ) → RiseBy key front → RiseBy key (fold (placed_by key) front xs)
rise-by_key key front [] rise = rise
rise-by_key key front (x ∷ xs) rise = rise-by_key key (placed_by key front x) xs (rise-placed key front x rise)

-- departures rise
pub RiseBy-by_departure : (moves : List (Option Move)) → RiseBy (λ s. minute_left (move_at moves s)) (by_departure moves)
unfolding by_departure
RiseBy-by_departure moves = rise-by_key (λ s. minute_left (move_at moves s)) [] (live_slots moves) tt

-- ends rise
pub RiseBy-by_end : (moves : List (Option Move)) → RiseBy (λ s. minute_arrived (move_at moves s)) (by_end moves)
unfolding by_end
RiseBy-by_end moves = rise-by_key (λ s. minute_arrived (move_at moves s)) [] (live_slots moves) tt

-- a slot that is greater than all of a list is put behind those of its key
ties-placed : (key : ℕ → ℕ) (xs : List ℕ) (s : ℕ) → AllByRecursion (λ x. x < s) xs → RiseBy key xs → TiesRise key xs
    → TiesRise key (placed_by key xs s)
ties-placed key [] s below rise ties = (tt, tt)
ties-placed key (x ∷ xs) s below rise ties = by (nat_le (key x) (key s)) refl (ties-placed key xs s below.1 rise.1 ties.1)
  where
    by : (b : Bool) → nat_le (key x) (key s) ≡ b → TiesRise key (placed_by key xs s)
        → TiesRise key (if b then x ∷ placed_by key xs s else s ∷ x ∷ xs)
    by true e rest = (all-placed (λ y. key x ≡ key y → x < y) key xs s ties.0 (λ _. below.0), rest)
    by false e rest =
        let above : key s < key x = leb-false (key x) (key s) e in (
          (
            (λ same. absurd (omega arith)),
            all-weaker (λ y. key x ≤ key y) (λ y. key s ≡ key y → s < y) (λ y h same. absurd (omega arith))
                xs rise.0,
          ),
          ties,
        )

-- slots that are put in by their numbers
ties-by_key : (key : ℕ → ℕ) (q : ℕ → Bool) (n a : ℕ) (front : List ℕ) → AllByRecursion (λ x. x < a) front → RiseBy key front
    → TiesRise key front
    → TiesRise key (fold (placed_by key) front (filter q (range_with_len a n)))
ties-by_key key q zero a front below rise ties = ties
ties-by_key key q (suc n) a front below rise ties =
    by (q a) (ties-by_key key q n (a + 1) (placed_by key front a) (all-placed (λ x. x < a + 1) key front a further here)
    (rise-placed key front a rise) (ties-placed key front a below rise ties))
    (ties-by_key key q n (a + 1) front further rise ties)
  where
    further : AllByRecursion (λ x. x < a + 1) front
    further = all-weaker (λ x. x < a) (λ x. x < a + 1) (λ x h. omega arith) front below

    here : a < a + 1
    here = omega arith

    by : (b : Bool) → TiesRise key (fold (placed_by key) (placed_by key front a) (filter q (range_with_len (a + 1) n)))
        → TiesRise key (fold (placed_by key) front (filter q (range_with_len (a + 1) n)))
        → TiesRise key (fold (placed_by key) front (cond b (a ∷ filter q (range_with_len (a + 1) n)) (filter q (range_with_len (a + 1) n))))
    by true put passed = put
    by false put passed = passed

-- of one departure the lesser slot stands first
pub TiesRise-by_departure : (moves : List (Option Move)) → TiesRise (λ s. minute_left (move_at moves s)) (by_departure moves)
unfolding by_departure
TiesRise-by_departure moves =
    ties-by_key (λ s. minute_left (move_at moves s)) (λ s. is_some (move_at moves s)) (length moves) 0 [] tt tt tt

-- of one end the lesser slot stands first
pub TiesRise-by_end : (moves : List (Option Move)) → TiesRise (λ s. minute_arrived (move_at moves s)) (by_end moves)
unfolding by_end
TiesRise-by_end moves =
    ties-by_key (λ s. minute_arrived (move_at moves s)) (λ s. is_some (move_at moves s)) (length moves) 0 [] tt tt tt

-- the move of a slot of a timetable
pub slot-move : (t : TimetableView) (s : ℕ) → move_at (trip_moves t.slots) s ≡ move_of_slot (slot_at t s)
slot-move t s = get_or-map-any move_of_slot t.slots s _

-- it is there where the trip runs, and leaves as that departs
pub slot-live : (t : TimetableView) (s : ℕ) → is_some (move_at (trip_moves t.slots) s) ≡ (slot_at t s).trip.live
slot-live t s = ap is_some (slot-move t s) ∙ by (slot_at t s) ((slot_at t s).trip.live)
  where
    by : (slot : Slot) (live : Bool) → is_some (if live then Some (move_of slot.trip) else None) ≡ live
    by slot true = refl
    by slot false = refl

pub slot-ends : (t : TimetableView) (s : ℕ) → (slot_at t s).trip.live ≡ true
    → minute_arrived (move_at (trip_moves t.slots) s) ≡ (slot_at t s).trip.ends
slot-ends t s live = ap minute_arrived (slot-move t s)
    ∙ ap (λ b. minute_arrived (if b then Some (move_of (slot_at t s).trip) else None)) live

pub slot-departs : (t : TimetableView) (s : ℕ) → (slot_at t s).trip.live ≡ true
    → minute_left (move_at (trip_moves t.slots) s) ≡ (slot_at t s).trip.departs
slot-departs t s live = ap minute_left (slot-move t s) ∙ ap (λ b. minute_left (if b then Some (move_of (slot_at t s).trip) else None)) live

filter_range-more : (q : ℕ → Bool) (n : ℕ) → filter q (range_with_len 0 (n + 1)) ≡ filter q (range_with_len 0 n) ++ cond (q n) (n ∷ []) []
filter_range-more q n =
    ap (λ m. filter q (range_with_len 0 m)) (let e : n + 1 ≡ suc n = omega arith in e)
    ∙ ap (filter q) (range_with_len-more 0 n)
    ∙ ap (λ x. filter q (range_with_len 0 n ++ x ∷ [])) (let e : 0 + n ≡ n = omega arith in e)
    ∙ filter-append q (range_with_len 0 n) (n ∷ [])

-- none of the keys that are greater than another is that one
none-with_key : (key : ℕ → ℕ) (k : ℕ) (xs : List ℕ) → AllByRecursion (λ y. k < key y) xs → filter (λ s. key s == k) xs ≡ []
none-with_key key k [] above = refl
none-with_key key k (x ∷ xs) above =
    ap (λ b. cond b (x ∷ filter (λ s. key s == k) xs) (filter (λ s. key s == k) xs))
    (ne_eqb (key x) k (let h = above.0 in let ne : key x ≢ k = omega arith in ne))
    ∙ none-with_key key k xs above.1

-- a slot that is put in comes behind those of its key
filter-placed : (key : ℕ → ℕ) (k : ℕ) (xs : List ℕ) (s : ℕ) → RiseBy key xs
    → filter (λ s. key s == k) (placed_by key xs s) ≡ filter (λ s. key s == k) xs ++ filter (λ s. key s == k) (s ∷ [])
filter-placed key k [] s rise = refl
filter-placed key k (x ∷ xs) s rise = by (nat_le (key x) (key s)) refl (filter-placed key k xs s rise.1)
  where
    behind : (b : Bool) (ys zs ends : List ℕ) → ys ≡ zs ++ ends → cond b (x ∷ ys) ys ≡ cond b (x ∷ zs) zs ++ ends
    behind true ys zs ends e = ap (λ ys. x ∷ ys) e
    behind false ys zs ends e = e

    before : (b : Bool) → (key s == k) ≡ b → key s < key x
        → cond b (s ∷ filter (λ s. key s == k) (x ∷ xs)) (filter (λ s. key s == k) (x ∷ xs)) ≡ filter (λ s. key s == k) (x ∷ xs)
        ++ cond b (s ∷ []) []
    before true e lt =
        let is : key s ≡ k = eqb-true (key s) k e in
        let none = none-with_key key k (x ∷ xs)
        ((let h : k < key x = omega arith in h), all-weaker (λ y. key x ≤ key y) (λ y. k < key y) (λ y h. omega arith) xs rise.0) in
        ap (λ ys. s ∷ ys) none ∙ ap (λ ys. ys ++ s ∷ []) (sym none)
    before false e lt = sym (append-nil (filter (λ s. key s == k) (x ∷ xs)))

    by : (b : Bool) → nat_le (key x) (key s) ≡ b
        → filter (λ s. key s == k) (placed_by key xs s) ≡ filter (λ s. key s == k) xs ++ filter (λ s. key s == k) (s ∷ [])
        → filter (λ s. key s == k) (if b then x ∷ placed_by key xs s else s ∷ x ∷ xs) ≡ filter (λ s. key s == k) (x ∷ xs)
        ++ filter (λ s. key s == k) (s ∷ [])
    by true e rest = behind (key x == k) _ _ _ rest
    by false e rest = before (key s == k) refl (leb-false (key x) (key s) e)

-- those of one key keep their order
filter-by_key : (key : ℕ → ℕ) (k : ℕ) (front xs : List ℕ) → RiseBy key front
    → filter (λ s. key s == k) (fold (placed_by key) front xs) ≡ filter (λ s. key s == k) front ++ filter (λ s. key s == k) xs
filter-by_key key k front [] rise = sym (append-nil (filter (λ s. key s == k) front))
filter-by_key key k front (x ∷ xs) rise =
    filter-by_key key k (placed_by key front x) xs (rise-placed key front x rise)
    ∙ ap (λ ys. ys ++ filter (λ s. key s == k) xs) (filter-placed key k front x rise)
    ∙ append_assoc (filter (λ s. key s == k) front) (filter (λ s. key s == k) (x ∷ [])) (filter (λ s. key s == k) xs)
    ∙ ap (λ ys. filter (λ s. key s == k) front ++ ys) (sym (filter-append (λ s. key s == k) (x ∷ []) xs))

-- the first of a list has its own key
filter-first : (key : ℕ → ℕ) (k x : ℕ) (xs : List ℕ) → key x ≡ k → filter (λ s. key s == k) (x ∷ xs) ≡ x ∷ filter (λ s. key s == k) xs
filter-first key k x xs is = ap (λ b. cond b (x ∷ filter (λ s. key s == k) xs) (filter (λ s. key s == k) xs)) (eq-eqb (key x) k is)

filter-passed : (key : ℕ → ℕ) (k x : ℕ) (xs : List ℕ) → key x ≢ k → filter (λ s. key s == k) (x ∷ xs) ≡ filter (λ s. key s == k) xs
filter-passed key k x xs other = ap (λ b. cond b (x ∷ filter (λ s. key s == k) xs) (filter (λ s. key s == k) xs)) (ne_eqb (key x) k other)

not-empty : (x : ℕ) (xs : List ℕ) → x ∷ xs ≡ [] → ⊥
not-empty x xs e = let n : suc (length xs) ≡ 0 = ap length e in omega arith

first-above : (key : ℕ → ℕ) (x y : ℕ) (ys : List ℕ) → key x < key y → RiseBy key (y ∷ ys) → filter (λ s. key s == key x) (y ∷ ys) ≡ []
first-above key x y ys lt rise =
    none-with_key key (key x) (y ∷ ys) (lt, all-weaker (λ z. key y ≤ key z) (λ z. key x < key z) (λ z h. omega arith) ys rise.0)

-- lists whose keys rise, with the same slots of each key in the same order, are one
rise-once : (key : ℕ → ℕ) (xs ys : List ℕ) → RiseBy key xs → RiseBy key ys
    → ((z : ℕ) → filter (λ s. key s == key z) xs ≡ filter (λ s. key s == key z) ys) → xs ≡ ys
rise-once key [] [] rise_x rise_y same = refl
rise-once key [] (y ∷ ys) rise_x rise_y same = absurd (not-empty y _ (sym (filter-first key (key y) y ys refl) ∙ sym (same y)))
rise-once key (x ∷ xs) [] rise_x rise_y same = absurd (not-empty x _ (sym (filter-first key (key x) x xs refl) ∙ same x))
rise-once key (x ∷ xs) (y ∷ ys) rise_x rise_y same = ⊎_elim
    (λ (lt : key x < key y). absurd (not-empty x _ (sym (filter-first key (key x) x xs refl) ∙ same x ∙ first-above key x y ys lt rise_y)))
    (λ (le : key y ≤ key x). ⊎_elim
    (λ (lt : key y < key x). absurd
    (not-empty y _ (sym (filter-first key (key y) y ys refl) ∙ sym (same y) ∙ first-above key y x xs lt rise_x)))
    (λ (ge : key x ≤ key y).
    let one : key y ≡ key x = omega arith in
    let both : x ∷ filter (λ s. key s == key x) xs ≡ y ∷ filter (λ s. key s == key x) ys = sym (filter-first key (key x) x xs refl)
    ∙ same x ∙ filter-first key (key x) y ys one in
    let rest = rise-once key xs ys rise_x.1 rise_y.1 (λ z. ⊎_elim
    (λ (is : key x ≡ key z). subst (λ k. filter (λ s. key s == k) xs ≡ filter (λ s. key s == k) ys) is (ap (drop 1) both))
    (λ (other : key x ≡ key z → ⊥).
    sym (filter-passed key (key z) x xs other) ∙ same z
    ∙ filter-passed key (key z) y ys (let ne : key x ≢ key z = other in let ne_y : key y ≢ key z = omega arith in ne_y))
    (cases_eq (key x) (key z))) in
    λ i. ap (λ zs. get_or zs 0 0) both i ∷ rest i)
    (cases_lt (key y) (key x)))
    (cases_lt (key x) (key y))

-- keys that agree give one order
placed-agree : (key other : ℕ → ℕ) (xs : List ℕ) (s : ℕ) → AllByRecursion (λ x. key x ≡ other x) xs → key s ≡ other s
    → placed_by key xs s ≡ placed_by other xs s
placed-agree key other [] s all here = refl
placed-agree key other (x ∷ xs) s all here = λ i. if nat_le (all.0 i) (here i) then x ∷ placed-agree key other xs s all.1 here i
    else s ∷ x ∷ xs

by_key-agree : (key other : ℕ → ℕ) (front xs : List ℕ) → AllByRecursion (λ x. key x ≡ other x) front
    → AllByRecursion (λ x. key x ≡ other x) xs
    → fold (placed_by key) front xs ≡ fold (placed_by other) front xs
by_key-agree key other front [] so_far all = refl
by_key-agree key other front (x ∷ xs) so_far all =
    by_key-agree key other (placed_by key front x) xs (all-placed (λ x. key x ≡ other x) key front x so_far all.0) all.1
    ∙ ap (λ ys. fold (placed_by other) ys xs) (placed-agree key other front x so_far all.0)

-- keys that do not fall rise
rise-from_order : (key : ℕ → ℕ) (xs : List ℕ) → IsNonDecreasingBy key xs → RiseBy key xs
rise-from_order key [] up = tt
rise-from_order key (x ∷ xs) up = (
  recursion_from_All (λ y. key x ≤ key y) xs (λ i d lt. up 0 (suc i) d (omega arith) (omega arith)),
  rise-from_order key xs (λ i j d le lt. up (suc i) (suc j) d (omega arith) (omega arith)),
)

-- two keys tie where they are equal
ties-key : (a b : ℕ) → (not (is_lt (nat_cmp a b)) && not (is_lt (nat_cmp b a))) ≡ (b == a)
ties-key a b = by (nat_lt a b) (nat_lt b a) (a == b) (b == a) ∙ grind (arith, nat_tests)
  where
    by : (t u v w : Bool) → (not (is_lt (cond t Less (cond v Equal Greater))) && not (is_lt (cond u Less (cond w Equal Greater)))) ≡ (not
        t && not u)
    by true u v w = refl
    by false true true w = refl
    by false true false w = refl
    by false false true true = refl
    by false false true false = refl
    by false false false true = refl
    by false false false false = refl

-- what a stable sort by keys makes of slots
pub sorted-by_key : (key other : ℕ → ℕ) (xs ys : List ℕ) → IsNonDecreasingBy other ys → IsStableByKey other nat_cmp xs ys
    → All (λ s. key s ≡ other s) xs → ys ≡ by_key key xs
sorted-by_key key other xs ys up stable agree =
    rise-once other ys (by_key other xs) (rise-from_order other ys up) (rise-by_key other [] xs tt) (λ z.
    let tie : (s : ℕ) → (other s == other z) ≡ (not (is_lt (nat_cmp (other z) (other s))) && not (is_lt (nat_cmp (other s) (other z)))) =
    λ s. sym (ties-key (other z) (other s)) in
    (λ i. filter (λ s. tie s i) ys) ∙ stable z ∙ (λ i. filter (λ s. sym (tie s) i) xs) ∙ sym (filter-by_key other (other z) [] xs tt))
    ∙ sym (by_key-agree key other [] xs tt (recursion_from_All (λ s. key s ≡ other s) xs agree))

-- the slots that run, up to the one after s
pub slots-more : (t : TimetableView) (slots : List ℕ) (s : ℕ)
    → slots ≡ filter (λ s. is_some (move_at (trip_moves t.slots) s)) (range_with_len 0 s)
    → (live : Bool) → (slot_at t s).trip.live ≡ live
    → slots ++ cond live (s ∷ []) [] ≡ filter (λ s. is_some (move_at (trip_moves t.slots) s)) (range_with_len 0 (s + 1))
slots-more t slots s so_far live is =
    (λ i. so_far i ++ cond (sym (slot-live t s ∙ is) i) (s ∷ []) [])
    ∙ sym (filter_range-more (λ s. is_some (move_at (trip_moves t.slots) s)) s)

pub slots-all : (t : TimetableView) (slots : List ℕ) (s : ℕ) → s ≡ length t.slots
    → slots ≡ filter (λ s. is_some (move_at (trip_moves t.slots) s)) (range_with_len 0 s) → slots ≡ live_slots (trip_moves t.slots)
slots-all t slots s end so_far =
    so_far ∙ ap (λ n. filter (λ s. is_some (move_at (trip_moves t.slots) s)) (range_with_len 0 n))
    (end ∙ sym (length-map t.slots move_of_slot))

-- the slots that run, sorted by departure, and by end
pub by_departure-sorted : (t : TimetableView) (slots order : List ℕ) → IsNonDecreasingBy (λ s. (slot_at t s).trip.departs) order
    → IsStableByKey (λ s. (slot_at t s).trip.departs) nat_cmp slots order
    → slots ≡ live_slots (trip_moves t.slots) → All (λ s. (slot_at t s).trip.live ≡ true) slots → order ≡ by_departure (trip_moves t.slots)
unfolding by_departure
by_departure-sorted t slots order up stable are live =
    let key = λ (s : ℕ). minute_left (move_at (trip_moves t.slots) s) in
    sorted-by_key key (λ s. (slot_at t s).trip.departs) slots order up stable (λ k d h. slot-departs t (get_or slots k d) (live k d h))
    ∙ ap (by_key key) are

pub by_end-sorted : (t : TimetableView) (slots order : List ℕ) → IsNonDecreasingBy (λ s. (slot_at t s).trip.ends) order
    → IsStableByKey (λ s. (slot_at t s).trip.ends) nat_cmp slots order
    → slots ≡ live_slots (trip_moves t.slots) → All (λ s. (slot_at t s).trip.live ≡ true) slots → order ≡ by_end (trip_moves t.slots)
unfolding by_end
by_end-sorted t slots order up stable are live =
    let key = λ (s : ℕ). minute_arrived (move_at (trip_moves t.slots) s) in
    sorted-by_key key (λ s. (slot_at t s).trip.ends) slots order up stable (λ k d h. slot-ends t (get_or slots k d) (live k d h))
    ∙ ap (by_key key) are
