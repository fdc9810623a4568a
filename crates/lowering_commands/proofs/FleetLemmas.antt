-- The fleet of moves is at most their number.
use Rattle.std.proofs.Common.{◌≡◌, ℕ, zero, suc, ◌+◌, ◌≤◌, ◌==◌, ◌&&◌, nat_le, Bool, true, false, cond, List, [], ◌∷◌, filter, length}
use Rattle.std.proofs.Common.{sum_by, pos, ◌≤ℤ◌, Some, refl, arith}
use Rattle.std.proofs.lemmas.Int.{ints}
use Rattle.std.proofs.lemmas.List.{length-map}
use Rattle.std.proofs.lemmas.List.Sums.{count_by-le-length, length-filter, sum_by-cons}
use Rattle.trip_model.specs.declared.trip.Move.{Move}
use Rattle.trip_model.specs.Deficit.{deficit, departures, live_moves}
use Rattle.trip_model.specs.Timetable.{Slot}
use Rattle.trip_model.specs.Trip.{move_of}
use Rattle.trip_model.specs.Maximum.{first_maximum, sum_of_maxima}
use Rattle.trip_model.proofs.Counting.{sum_below, sum_below-add, sum_below-le, sum_below-zero}
use Rattle.trip_model.proofs.MaximumLemmas.{IsFirstMaximum-first_maximum}
use Rattle.fixed_fleet.proofs.LeastNumber.{begins-below, begins_at, leaves_by}

leaves-begins : (k t : ℕ) (m : Move) → leaves_by k t m ≤ begins_at k m
leaves-begins k t m = by (m.from == k) (nat_le m.leaves t)
  where
    by : (a b : Bool) → cond (a && b) 1 0 ≤ cond a 1 0
    by true true = omega arith
    by true false = omega arith
    by false b = omega arith

departures-begin : (moves : List Move) (k t : ℕ) → departures moves k t ≤ sum_by (begins_at k) moves
departures-begin [] k t = omega arith
departures-begin (m ∷ moves) k t =
    omega (arith, sum_by-cons (leaves_by k t) m moves, sum_by-cons (begins_at k) m moves, leaves-begins k t m, departures-begin moves k t)

begins-few : (moves : List Move) (n : ℕ) → sum_below (λ k. sum_by (begins_at k) moves) n ≤ length moves
begins-few [] n = omega (arith, sum_below-zero (λ k. 0) n (λ s h. refl))
begins-few (m ∷ moves) n =
    let split = sum_below-le (λ k. sum_by (begins_at k) (m ∷ moves)) (λ k. begins_at k m + sum_by (begins_at k) moves) n
    (λ k h. omega (arith, sum_by-cons (begins_at k) m moves)) in
    omega (
      arith,
      split,
      sum_below-add (λ k. begins_at k m) (λ k. sum_by (begins_at k) moves) n,
      begins-below n (Some m),
      begins-few moves
          n,
    )

maxima-begin : (moves : List Move) (n : ℕ) → sum_of_maxima (deficit moves) n ≤ℤ pos (sum_below (λ k. sum_by (begins_at k) moves) n)
maxima-begin moves zero = omega (arith, ints)
maxima-begin moves (suc n) =
    let first = IsFirstMaximum-first_maximum (deficit moves n) in
    let leave = departures-begin moves n (first_maximum (deficit moves n)).1 in
    omega (arith, ints, first.reached, leave, maxima-begin moves n)

pub fleet-few : (moves : List Move) (n sum : ℕ) → pos sum ≡ sum_of_maxima (deficit moves) n → sum ≤ length moves
fleet-few moves n sum is = omega (arith, ints, is, maxima-begin moves n, begins-few moves n)

pub live-few : (slots : List Slot) → length (live_moves slots) ≤ length slots
live-few slots = omega (
  arith,
  length-map (filter (λ (s : Slot). s.trip.live) slots) (λ (s : Slot). move_of s.trip),
  length-filter
      (λ (s : Slot). s.trip.live) slots,
  count_by-le-length (λ (s : Slot). s.trip.live) slots,
)
