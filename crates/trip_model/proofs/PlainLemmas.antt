-- Networks of moves: trips that fit run, and the one departs before the other.
use Rattle.std.proofs.Common.{◌≡◌, ℕ, ◌<◌, ◌≤◌, ◌==◌, nat_le, Bool, true, false, List, [], ◌∷◌, length, map, filter, cond, Option, None}
use Rattle.std.proofs.Common.{Some, if◌then◌else◌, refl, sym, ap, subst, ◌∙◌, ⊎_elim, arith}
use Rattle.std.specs.Option.{is_some}
use Rattle.std.proofs.lemmas.Bool.{and_parts, leb-true, false≢true, cases_lt}
use Rattle.std.proofs.lemmas.Int.{ints}
use Rattle.std.proofs.lemmas.List.{get_or_past}
use Rattle.std.specs.Option.{unwrap_or}
use Rattle.std.proofs.lemmas.List.Sums.{sum_by-cons}
use Rattle.std.proofs.lemmas.Option.{none-some, same_Some}
use Rattle.trip_model.specs.declared.trip.Move.{Move}
use Rattle.trip_model.specs.declared.trip.Trip.{Trip}
use Rattle.trip_model.specs.Blocking.{minutes_after, block_minutes, empty_minutes, IsFewest, IsLeast}
use Rattle.trip_model.specs.Deficit.{live_moves}
use Rattle.trip_model.specs.Links.{AreLinks}
use Rattle.trip_model.specs.Network.{Fits, AreDepartures}
use Rattle.trip_model.specs.Order.{minute_left}
use Rattle.trip_model.specs.Plain.{move_at, made, meets, plain_network, is_in_time, timely_network, move_of_slot, trip_moves, IsMove}
use Rattle.trip_model.specs.Plain.{AreMoves}
use Rattle.trip_model.specs.Place.{Place}
use Rattle.trip_model.specs.Timetable.{TimetableView, Slot, IsTimetable, slot_at}
use Rattle.trip_model.specs.Trip.{IsValidTrip, move_of}
use Rattle.trip_model.proofs.OrderLemmas.{slot-move}

-- what a test of two moves says where it passes
fits-test : (b : Bool) → is_some {T = ℕ} (if b then Some 0 else None) ≡ true → b ≡ true
fits-test true e = refl
fits-test false e = absurd (false≢true e)

-- two moves, of which a vehicle that makes the first one can make the second in time
pub record AreInTime (m n : Option Move) (a b : Move) : Type 0 where
  pub first : m ≡ Some a
  pub second : n ≡ Some b
  pub in_time : a.arrives ≤ b.leaves

pub in_time : (m n : Option Move) → is_in_time m n ≡ true → (a : Move) × (b : Move) × AreInTime m n a b
in_time (Some a) (Some b) e = (a, b, record { first = refl; second = refl; in_time = leb-true a.arrives b.leaves e })
in_time (Some a) None e = absurd (false≢true e)
in_time None (Some b) e = absurd (false≢true e)
in_time None None e = absurd (false≢true e)

pub timely-meets : (m n : Option Move) → meets m n ≡ true → is_in_time m n ≡ true
timely-meets (Some a) (Some b) e = (and_parts (a.to == b.from) (nat_le a.arrives b.leaves) e).1
timely-meets (Some a) None e = e
timely-meets None (Some b) e = e
timely-meets None None e = e

pub fits-timely : (moves : List (Option Move)) (i j : ℕ) → Fits (timely_network moves) i j
    → is_in_time (move_at moves i) (move_at moves j) ≡ true
fits-timely moves i j fits = fits-test (is_in_time (move_at moves i) (move_at moves j)) fits

pub fits-plain : (moves : List (Option Move)) (i j : ℕ) → Fits (plain_network moves) i j → meets (move_at moves i) (move_at moves j) ≡ true
fits-plain moves i j fits = fits-test (meets (move_at moves i) (move_at moves j)) fits

-- trips that fit in time run both, and departures rise
pub AreDepartures-timely : (places : ℕ) (moves : List (Option Move)) → AreMoves places moves
    → AreDepartures (timely_network moves) (λ s. minute_left (move_at moves s))
AreDepartures-timely places moves are = record {
  runs = λ i j fits. let p = in_time (move_at moves i) (move_at moves j) (fits-timely moves i j fits) in
      (ap is_some p.2.first, ap is_some p.2.second);
  rises = λ i j fits.
      let p = in_time (move_at moves i) (move_at moves j) (fits-timely moves i j fits) in
      let m = are.each i p.0 p.2.first in
      let a : minute_left (move_at moves i) ≡ p.0.leaves = ap minute_left p.2.first in
      let b : minute_left (move_at moves j) ≡ p.1.leaves = ap minute_left p.2.second in
      omega (arith, a, b, m.forward, p.2.in_time);
  within = λ i j fits.
      let p = in_time (move_at moves i) (move_at moves j) (fits-timely moves i j fits) in
      let m = are.each j p.1 p.2.second in
      let b : minute_left (move_at moves j) ≡ p.1.leaves = ap minute_left p.2.second in
      omega (arith, b, m.forward, m.in_day);
}

-- where two trips meet, the second is in time
fits-in_time : (moves : List (Option Move)) (i j : ℕ) → Fits (plain_network moves) i j → Fits (timely_network moves) i j
fits-in_time moves i j fits =
    ap (λ b. is_some {T = ℕ} (if b then Some 0 else None)) (timely-meets (move_at moves i) (move_at moves j) (fits-plain moves i j fits))

pub AreDepartures-plain : (places : ℕ) (moves : List (Option Move)) → AreMoves places moves
    → AreDepartures (plain_network moves) (λ s. minute_left (move_at moves s))
AreDepartures-plain places moves are =
    let timely = AreDepartures-timely places moves are in
    record {
      runs = λ i j fits. timely.runs i j (fits-in_time moves i j fits);
      rises = λ i j fits. timely.rises i j (fits-in_time moves i j fits);
      within = λ i j fits. timely.within i j (fits-in_time moves i j fits);
    }

pub AreLinks-timely : (moves : List (Option Move)) (links : List (Option ℕ)) → AreLinks (plain_network moves) links
    → AreLinks (timely_network moves) links
AreLinks-timely moves links are = record { fits = λ i j e. fits-in_time moves i j (are.fits i j e); once = are.once }

slot-made : (slot : Slot) (m : Move) (live : Bool) → slot.trip.live ≡ live → move_of_slot slot ≡ Some m
    → (live ≡ true) × (move_of slot.trip ≡ m)
slot-made slot m true live e =
    (refl, same_Some (move_of slot.trip) m (sym (ap (λ b. if b then Some (move_of slot.trip) else None) live) ∙ e))
slot-made slot m false dead e = absurd (none-some m (sym (ap (λ b. if b then Some (move_of slot.trip) else None) dead) ∙ e))

pub IsMove-trip : (places : List Place) (trip : Trip) → IsValidTrip places trip → IsMove (length places) (move_of trip)
IsMove-trip places trip valid = record {
  from = valid.from;
  to = valid.to;
  forward = valid.forward;
  in_day = omega (arith, ints, valid.ends_in_day, valid.not_too_late, valid.late);
}

-- a slot past the last one has no trip that runs
slot-within : (t : TimetableView) (s : ℕ) → (slot_at t s).trip.live ≡ true → s < length t.slots
slot-within t s live = ⊎_elim
    (λ (h : s < length t.slots). h)
    (λ (h : length t.slots ≤ s). absurd (false≢true (sym (ap (λ (slot : Slot). slot.trip.live) (get_or_past t.slots s _ h)) ∙ live)))
    (cases_lt s (length t.slots))

-- the moves that are made are those of the trips that run
pub made-trips : (slots : List Slot) → made (trip_moves slots) ≡ live_moves slots
made-trips [] = refl
made-trips (slot ∷ slots) = by (slot.trip.live) (made-trips slots)
  where
    by : (live : Bool) → made (trip_moves slots) ≡ live_moves slots
        → made ((if live then Some (move_of slot.trip) else None) ∷ trip_moves slots) ≡ map (λ s. move_of s.trip)
        (cond live (slot ∷ filter (λ s. s.trip.live) slots) (filter (λ s. s.trip.live) slots))
    by true rest = ap (λ ms. move_of slot.trip ∷ ms) rest
    by false rest = rest

-- the moves of the trips of a timetable
pub AreMoves-trips : (t : TimetableView) → IsTimetable t → AreMoves (length t.places) (trip_moves t.slots)
AreMoves-trips t valid = record {
  each = λ s m e.
      let made = slot-made (slot_at t s) m ((slot_at t s).trip.live) refl (sym (slot-move t s) ∙ e) in
      subst (IsMove (length t.places)) made.1 (IsMove-trip t.places (slot_at t s).trip (valid.trips s _ (slot-within t s made.0)));
}

-- without empty minutes, few vehicles are all that counts
unwrapped : (b : Bool) → ◌≡◌ {A = ℕ} (unwrap_or (if b then Some 0 else None) 0) 0
unwrapped true = refl
unwrapped false = refl

plain-after : (moves : List (Option Move)) (i : ℕ) (js : List ℕ) → minutes_after (plain_network moves) i js ≡ 0
plain-after moves i [] = refl
plain-after moves i (j ∷ js) = omega (arith, unwrapped (meets (move_at moves i) (move_at moves j)), plain-after moves j js)

plain-block : (moves : List (Option Move)) (block : List ℕ) → block_minutes (plain_network moves) block ≡ 0
plain-block moves [] = refl
plain-block moves (i ∷ js) = omega (arith, plain-after moves i js)

plain-minutes : (moves : List (Option Move)) (blocks : List (List ℕ)) → empty_minutes (plain_network moves) blocks ≡ 0
plain-minutes moves [] = refl
plain-minutes moves (block ∷ blocks) =
    omega (arith, sum_by-cons (block_minutes (plain_network moves)) block blocks, plain-block moves block, plain-minutes moves blocks)

-- a blocking without deadheads that has the fewest vehicles is least
pub IsLeast-plain : (moves : List (Option Move)) (blocks : List (List ℕ)) → IsFewest (plain_network moves) blocks
    → IsLeast (plain_network moves) blocks
IsLeast-plain moves blocks fewest = record {
  fewest = fewest;
  shortest = λ others _ _. omega (arith, plain-minutes moves blocks);
}
