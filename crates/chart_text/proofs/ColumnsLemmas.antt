-- The columns of a chart, as they are computed from the first departure and the last end, and that they lie in the day.
use Rattle.std.proofs.Common.{◌≡◌, ℕ, suc, ◌+◌, ◌-◌, ◌/◌, ◌<◌, ◌≤◌, max, Bool, true, false, cond, List, [], ◌∷◌, ◌++◌, map, length, get_or}
use Rattle.std.proofs.Common.{take, filter, fold, All, unwrap_or, refl, sym, ap, subst, ◌∙◌, append_assoc, arith}
use Rattle.std.specs.List.{range_with_len, flat_map, enumerate_from}
use Rattle.std.proofs.lemmas.Grind.{flat_map-append}
use Rattle.std.proofs.lemmas.Int.{ints}
use Rattle.std.proofs.lemmas.List.{append-nil, take_more, length-take-le}
use Rattle.std.proofs.lemmas.List.Elements.{All-head, All-tail}
use Rattle.std.proofs.lemmas.List.FromFn.{length-range_with_len, get_or-range_with_len}
use Rattle.trip_model.specs.declared.trip.Move.{Move}
use Rattle.trip_model.specs.Deficit.{live_moves}
use Rattle.trip_model.specs.Place.{Place}
use Rattle.trip_model.specs.Timetable.{TimetableView, Slot, IsTimetable}
use Rattle.trip_model.specs.Trip.{IsValidTrip, move_of}
use Rattle.chart_text.specs.Columns.{first_departure, last_end, columns_of}

-- where a minute later than any stands for the first departure of no moves, there are no columns
pub columns_between : (moves : List Move) (first last : ℕ) → first ≡ unwrap_or (first_departure moves) 65535 → last ≡ last_end moves
    → range_with_len (first / 10) (last / 10 + 1 - first / 10) ≡ columns_of moves
unfolding columns_of
columns_between moves first last starts ends = (λ i. range_with_len (starts i / 10) (ends i / 10 + 1 - starts i / 10)) ∙ by moves
  where
    by : (moves : List Move) → range_with_len (unwrap_or (first_departure moves) 65535 / 10)
        (last_end moves / 10 + 1 - unwrap_or (first_departure moves) 65535 / 10) ≡ columns_of moves
    by [] = refl
    by (m ∷ moves) = refl

-- no number of a range is above its last one
range-bounded : (first last bound : ℕ) → last ≤ bound → All (λ c. c ≤ bound) (range_with_len first (last + 1 - first))
range-bounded first last bound h =
    λ k d there.
    let len = length-range_with_len first (last + 1 - first) in
    let within : k < last + 1 - first = omega arith in
    let is = get_or-range_with_len first (last + 1 - first) k d within in
    omega arith

-- a valid trip ends by 105:00
ends-in_day : (places : List Place) (s : Slot) → IsValidTrip places s.trip → s.trip.ends ≤ 6300
ends-in_day places s valid =
    let late = valid.late in
    let not_late = valid.not_too_late in
    let published = valid.ends_in_day in
    omega (arith, ints)

ends-bounded : (places : List Place) (slots : List Slot) (before : ℕ) → before ≤ 6300 → All (λ s. IsValidTrip places s.trip) slots
    → fold max before (map (λ m. m.arrives) (live_moves slots)) ≤ 6300
ends-bounded places [] before h valid = h
ends-bounded places (s ∷ slots) before h valid =
    let end : s.trip.ends ≤ 6300 = ends-in_day places s (All-head (λ s. IsValidTrip places s.trip) s slots valid) in
    let rest : All (λ s. IsValidTrip places s.trip) slots = All-tail (λ s. IsValidTrip places s.trip) s slots valid in
    by s.trip.live (ends-bounded places slots (max before s.trip.ends) (omega arith) rest) (ends-bounded places slots before h rest)
  where
    by : (b : Bool) → fold max (max before s.trip.ends) (map (λ m. m.arrives) (live_moves slots)) ≤ 6300
        → fold max before (map (λ m. m.arrives) (live_moves slots)) ≤ 6300
        → fold max before (map (λ m. m.arrives)
        (map (λ s. move_of s.trip) (cond b (s ∷ filter (λ s. s.trip.live) slots) (filter (λ s. s.trip.live) slots)))) ≤ 6300
    by true runs cancelled = runs
    by false runs cancelled = cancelled

-- the columns of a timetable lie in the day
pub columns_of-in_day : (t : TimetableView) → IsTimetable t → All (λ c. c ≤ 630) (columns_of (live_moves t.slots))
columns_of-in_day t valid =
    let last : last_end (live_moves t.slots) ≤ 6300 = ends-bounded t.places t.slots 0 (omega arith) valid.trips in
    subst (All (λ c. c ≤ 630)) (columns_between (live_moves t.slots) _ _ refl refl)
    (range-bounded (unwrap_or (first_departure (live_moves t.slots)) 65535 / 10) (last_end (live_moves t.slots) / 10) 630 (omega arith))

-- numbered items, with one more
enumerate_from-push : {X : Type 0} (from : ℕ) (xs : List X) (x : X)
    → enumerate_from from (xs ++ x ∷ []) ≡ enumerate_from from xs ++ (from + length xs, x) ∷ []
enumerate_from-push from [] x = let e : from ≡ from + 0 = omega arith in ap (λ n. (n, x) ∷ []) e
enumerate_from-push from (y ∷ xs) x =
    ap (λ rest. (from, y) ∷ rest) (enumerate_from-push (from + 1) xs x
    ∙ (let e : from + 1 + length xs ≡ from + suc (length xs) = omega arith in ap (λ n. enumerate_from (from + 1) xs ++ (n, x) ∷ []) e))

-- the text after the line of one numbered item more
pub text-more : {X : Type 0} (line : (ℕ × X) → List ℕ) (from : ℕ) (xs : List X) (k number : ℕ) (d : X) (start text next : List ℕ)
    → k < length xs → from + k ≡ number
    → text ≡ start ++ flat_map line (enumerate_from from (take k xs))
    → next ≡ text ++ line (number, get_or xs k d)
    → next ≡ start ++ flat_map line (enumerate_from from (take (k + 1) xs))
text-more line from xs k number d start text next h at so_far written =
    let place : from + length (take k xs) ≡ number = omega (arith, length-take-le k xs) in
    let before = flat_map line (enumerate_from from (take k xs)) in
    written
    ∙ (λ i. so_far i ++ line (number, get_or xs k d))
    ∙ append_assoc start before (line (number, get_or xs k d))
    ∙ sym (ap (λ ys. start ++ flat_map line (enumerate_from from ys)) (take_more xs k d h)
    ∙ ap (λ ys. start ++ flat_map line ys) (enumerate_from-push from (take k xs) (get_or xs k d))
    ∙ ap (λ ys. start ++ ys) (flat_map-append line (enumerate_from from (take k xs)) ((from + length (take k xs), get_or xs k d) ∷ []))
    ∙ (λ i. start ++ (before ++ append-nil (line (place i, get_or xs k d)) i)))
