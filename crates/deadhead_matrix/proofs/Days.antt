-- The network of deadheads is one of one day, and along trips that fit departures rise.
use Rattle.std.proofs.Common.{◌≡◌, ℕ, ◌+◌, ◌<◌, ◌≤◌, nat_le, Bool, true, false, List, length, inl, inr, ◌⊎◌, Option, None, Some}
use Rattle.std.proofs.Common.{if◌then◌else◌, refl, ap, arith}
use Rattle.std.specs.List.{All}
use Rattle.std.specs.Option.{is_some}
use Rattle.std.proofs.lemmas.Bool.{cases_lt, leb-true}
use Rattle.std.proofs.lemmas.List.{get_or_past}
use Rattle.std.proofs.lemmas.Option.{none-some, same_Some}
use Rattle.trip_model.specs.declared.trip.Move.{Move}
use Rattle.trip_model.specs.Network.{AreDepartures}
use Rattle.trip_model.specs.Order.{minute_left}
use Rattle.trip_model.specs.Plain.{move_at, AreMoves}
use Rattle.trip_model.proofs.Counting.{runs-within}
use Rattle.deadhead_matrix.specs.declared.pulls.Pull.{Pull}
use Rattle.deadhead_matrix.specs.declared.pulls.TheConstants.{NO_PULL}
use Rattle.deadhead_matrix.specs.Fitting.{in_time, empty_between, out_before, home_after, deadhead_network, ruled_network}
use Rattle.deadhead_matrix.proofs.Ruled.{AreDepartures-allowed, IsDay-allowed}
use Rattle.deadhead_matrix.specs.Matrix.{MatrixView, walk}
use Rattle.assignment_model.specs.Prices.{IsDay}
use Rattle.deadhead_matrix.specs.Pulls.{IsPull, pull_at}
use Rattle.assignment_model.proofs.Duality.{fitting}

-- two moves with a walk of so many minutes between them, for which the time suffices
record IsReached (m n : Option Move) (minutes : ℕ) (a b : Move) : Type 0 where
  pub first : m ≡ Some a
  pub second : n ≡ Some b
  pub reached : a.arrives + minutes ≤ b.leaves

timed : (a b : Move) (found : Option ℕ) (minutes : ℕ) → in_time a b found ≡ Some minutes → a.arrives + minutes ≤ b.leaves
timed a b None minutes e = absurd (none-some minutes e)
timed a b (Some k) minutes e = by (nat_le (a.arrives + k) b.leaves) refl e
  where
    by : (test : Bool) → nat_le (a.arrives + k) b.leaves ≡ test → (if test then Some k else None) ≡ Some minutes
        → a.arrives + minutes ≤ b.leaves
    by true passed e = let same : k ≡ minutes = same_Some k minutes e in let le = leb-true (a.arrives + k) b.leaves passed in
        omega (arith, same, le)
    by false passed e = absurd (none-some minutes e)

reached : (walk : ℕ → ℕ → Option ℕ) (m n : Option Move) (minutes : ℕ) → empty_between walk m n ≡ Some minutes
    → (a : Move) × (b : Move) × IsReached m n minutes a b
reached walk (Some a) (Some b) minutes e = (a, b, record { first = refl; second = refl; reached = timed a b (walk a.to b.from) minutes e })
reached walk (Some a) None minutes e = absurd (none-some minutes e)
reached walk None (Some b) minutes e = absurd (none-some minutes e)
reached walk None None minutes e = absurd (none-some minutes e)

AreDepartures-deadhead : (places : ℕ) (moves : List (Option Move)) (matrix : MatrixView) → AreMoves places moves
    → AreDepartures (deadhead_network moves matrix) (λ s. minute_left (move_at moves s))
AreDepartures-deadhead places moves matrix are = record {
  runs = λ i j fits.
      let m = fitting (deadhead_network moves matrix) i j fits in
      let p = reached (walk matrix) (move_at moves i) (move_at moves j) m.0 m.1 in
      (ap is_some p.2.first, ap is_some p.2.second);
  rises = λ i j fits.
      let m = fitting (deadhead_network moves matrix) i j fits in
      let p = reached (walk matrix) (move_at moves i) (move_at moves j) m.0 m.1 in
      let move = are.each i p.0 p.2.first in
      let a : minute_left (move_at moves i) ≡ p.0.leaves = ap minute_left p.2.first in
      let b : minute_left (move_at moves j) ≡ p.1.leaves = ap minute_left p.2.second in
      omega (arith, a, b, move.forward, p.2.reached);
  within = λ i j fits.
      let m = fitting (deadhead_network moves matrix) i j fits in
      let p = reached (walk matrix) (move_at moves i) (move_at moves j) m.0 m.1 in
      let move = are.each j p.1 p.2.second in
      let b : minute_left (move_at moves j) ≡ p.1.leaves = ap minute_left p.2.second in
      omega (arith, b, move.forward, move.in_day);
}

-- no pull is longer than a day
IsPull-at : (pulls : List Pull) (place : ℕ) → All IsPull pulls → IsPull (pull_at pulls place)
IsPull-at pulls place are = by (cases_lt place (length pulls))
  where
    by : (place < length pulls) ⊎ (length pulls ≤ place) → IsPull (pull_at pulls place)
    by (inl within) = are place NO_PULL within
    by (inr past) = rw (get_or_past pulls place NO_PULL past) (record { pull_out = omega arith; pull_in = omega arith })

out-short : (pulls : List Pull) (m : Option Move) → All IsPull pulls → out_before pulls m ≤ 1440
out-short pulls None are = omega arith
out-short pulls (Some m) are = (IsPull-at pulls m.from are).pull_out

home-short : (pulls : List Pull) (m : Option Move) → All IsPull pulls → home_after pulls m ≤ 1440
home-short pulls None are = omega arith
home-short pulls (Some m) are = (IsPull-at pulls m.to are).pull_in

IsDay-deadhead : (places : ℕ) (moves : List (Option Move)) (matrix : MatrixView) → AreMoves places moves → All IsPull matrix.pulls
    → length moves ≤ 4096
    → IsDay (deadhead_network moves matrix) (length moves)
IsDay-deadhead places moves matrix are pulls few = record {
  few = few;
  within = λ s live. runs-within moves s live;
  walks = λ i j m e.
      let p = reached (walk matrix) (move_at moves i) (move_at moves j) m e in
      let move = are.each j p.1 p.2.second in
      omega (arith, move.forward, move.in_day, p.2.reached);
  out = λ s. out-short matrix.pulls (move_at moves s) pulls;
  home = λ s. home-short matrix.pulls (move_at moves s) pulls;
}

-- the same where rules of pairs forbid some
pub AreDepartures-ruled : (places : ℕ) (names : List (List ℕ)) (moves : List (Option Move)) (matrix : MatrixView) → AreMoves places moves
    → AreDepartures (ruled_network names moves matrix) (λ s. minute_left (move_at moves s))
AreDepartures-ruled places names moves matrix are =
    AreDepartures-allowed matrix.rules names (deadhead_network moves matrix) (λ s. minute_left (move_at moves s))
    (AreDepartures-deadhead places moves matrix are)

pub IsDay-ruled : (places : ℕ) (names : List (List ℕ)) (moves : List (Option Move)) (matrix : MatrixView) → AreMoves places moves
    → All IsPull matrix.pulls → length moves ≤ 4096
    → IsDay (ruled_network names moves matrix) (length moves)
IsDay-ruled places names moves matrix are pulls few =
    IsDay-allowed matrix.rules names (deadhead_network moves matrix) (length moves) (IsDay-deadhead places moves matrix are pulls few)
