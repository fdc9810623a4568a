-- The links of a plan with deadheads lead to trips that begin in time.
use Rattle.std.proofs.Common.{◌≡◌, ℕ, ◌+◌, Bool, true, false, List, Option, None, Some, refl, arith}
use Rattle.std.specs.Prelude.{IsSome, nat_le, if◌then◌else◌}
use Rattle.std.proofs.lemmas.Bool.{false≢true, le-leb, leb-true}
use Rattle.trip_model.specs.declared.trip.Move.{Move}
use Rattle.trip_model.specs.Links.{AreLinks}
use Rattle.trip_model.specs.Plain.{is_in_time, move_at, timely_network}
use Rattle.deadhead_matrix.specs.Fitting.{deadhead_network, empty_between, in_time, ruled_network}
use Rattle.deadhead_matrix.proofs.Ruled.{allowed-fits}
use Rattle.deadhead_matrix.specs.Matrix.{MatrixView, walk}

-- a test that has found something is true
found-by : (b : Bool) (m : ℕ) → IsSome {T = ℕ} (if b then Some m else None) → b ≡ true
found-by true m is = refl
found-by false m is = absurd (false≢true is)

by-test : (b : Bool) → b ≡ true → IsSome {T = ℕ} (if b then Some 0 else None)
by-test true is = refl
by-test false is = absurd (false≢true is)

-- a vehicle that needs some minutes to a trip and is in time is so without them
timely : (walk : ℕ → ℕ → Option ℕ) (m n : Option Move) → IsSome (empty_between walk m n)
    → IsSome {T = ℕ} (if is_in_time m n then Some 0 else None)
timely walk None n is = absurd (false≢true is)
timely walk (Some a) None is = absurd (false≢true is)
timely walk (Some a) (Some b) is = by (walk a.to b.from) is
  where
    by : (found : Option ℕ) → IsSome (in_time a b found) → IsSome {T = ℕ} (if nat_le a.arrives b.leaves then Some 0 else None)
    by None is = absurd (false≢true is)
    by (Some m) is = by-test (nat_le a.arrives b.leaves)
        (le-leb a.arrives b.leaves (omega (arith, leb-true (a.arrives + m) b.leaves (found-by (nat_le (a.arrives + m) b.leaves) m is))))

-- links along which vehicles may run empty lead to trips that begin in time
pub timely-links : (names : List (List ℕ)) (moves : List (Option Move)) (matrix : MatrixView) (links : List (Option ℕ))
    → AreLinks (ruled_network names moves matrix) links → AreLinks (timely_network moves) links
timely-links names moves matrix links are = record {
  fits = λ i j next. timely (walk matrix) (move_at moves i) (move_at moves j)
      (allowed-fits matrix.rules names (deadhead_network moves matrix) i j (are.fits i j next));
  once = are.once;
}
