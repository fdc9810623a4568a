-- The matrix without entries.
use Rattle.std.proofs.Common.{◌≡◌, ℕ, zero, suc, ◌+◌, ◌<◌, ◌==◌, ◌&&◌, nat_le, Bool, true, false, List, [], map, replicate}
use Rattle.std.proofs.Common.{get_or, Option, None, Some, if◌then◌else◌, refl, ap, ◌∙◌, arith}
use Rattle.std.specs.List.{range_with_len}
use Rattle.std.proofs.lemmas.List.FromFn.{get_or-map-range_with_len}
use Rattle.std.specs.Option.{is_some}
use Rattle.trip_model.specs.declared.trip.Move.{Move}
use Rattle.trip_model.specs.Plain.{move_at, meets, plain_network, AreMoves}
use Rattle.deadhead_matrix.specs.Fitting.{in_time, empty_between, out_before, home_after, deadhead_network}
use Rattle.deadhead_matrix.specs.declared.pulls.Pull.{Pull}
use Rattle.deadhead_matrix.specs.declared.pulls.TheConstants.{NO_PULL}
use Rattle.deadhead_matrix.specs.Matrix.{walk, standing, empty_matrix}
use Rattle.deadhead_matrix.specs.Pulls.{pull_at}

-- it has the walks that need no entries
walk-empty : (places a b : ℕ) → a < places → b < places → walk (empty_matrix places) a b ≡ standing a b
walk-empty places a b a_in b_in =
    ap (λ row. get_or row b None) (get_or-map-range_with_len (λ a. map (standing a) (range_with_len 0 places)) 0 places a a [] a_in
    (omega arith))
    ∙ get_or-map-range_with_len (standing a) 0 places b b None b_in (omega arith)

-- two moves: a vehicle that stands still is in time exactly where they meet
in_time-standing : (places : ℕ) (a b : Move) → a.to < places → b.from < places
    → in_time a b (walk (empty_matrix places) a.to b.from) ≡ (if (a.to == b.from) && nat_le a.arrives b.leaves then Some 0 else None)
in_time-standing places a b a_in b_in = ap (in_time a b) (walk-empty places a.to b.from a_in b_in) ∙ by (a.to == b.from)
  where
    by : (same : Bool) → in_time a b (if same then Some 0 else None) ≡ (if same && nat_le a.arrives b.leaves then Some 0 else None)
    by true = let none : a.arrives + 0 ≡ a.arrives = omega arith in ap (λ n. if nat_le n b.leaves then Some 0 else None) none
    by false = refl

empty-standing : (places : ℕ) (moves : List (Option Move)) → AreMoves places moves → (i j : ℕ) (m n : Option Move) → move_at moves i ≡ m
    → move_at moves j ≡ n
    → empty_between (walk (empty_matrix places)) m n ≡ (if meets m n then Some 0 else None)
empty-standing places moves are i j None n first second = refl
empty-standing places moves are i j (Some a) None first second = refl
empty-standing places moves are i j (Some a) (Some b) first second =
    in_time-standing places a b (are.each i a first).to (are.each j b second).from

no_pull-at : (places place : ℕ) → pull_at (replicate places NO_PULL) place ≡ NO_PULL
no_pull-at zero place = refl
no_pull-at (suc places) zero = refl
no_pull-at (suc places) (suc place) = no_pull-at places place

out-standing : (places : ℕ) (m : Option Move) → out_before (empty_matrix places).pulls m ≡ 0
out-standing places None = refl
out-standing places (Some m) = ap (λ (pull : Pull). pull.pull_out) (no_pull-at places m.from)

home-standing : (places : ℕ) (m : Option Move) → home_after (empty_matrix places).pulls m ≡ 0
home-standing places None = refl
home-standing places (Some m) = ap (λ (pull : Pull). pull.pull_in) (no_pull-at places m.to)

pub network-standing : (places : ℕ) (moves : List (Option Move)) → AreMoves places moves
    → deadhead_network moves (empty_matrix places) ≡ plain_network moves
network-standing places moves are = λ k. record {
  live = λ s. is_some (move_at moves s);
  empty = λ i j. empty-standing places moves are i j (move_at moves i) (move_at moves j) refl refl k;
  out = λ s. out-standing places (move_at moves s) k;
  home = λ s. home-standing places (move_at moves s) k;
}
