-- Between trips that fit a vehicle runs empty along the least walk.
use Rattle.std.proofs.Common.{◌≡◌, ℕ, ◌+◌, nat_le, Bool, true, false, Option, None, Some, if◌then◌else◌, refl, subst, ◌∙◌}
use Rattle.std.specs.Option.{IsSome}
use Rattle.std.proofs.lemmas.Bool.{false≢true}
use Rattle.trip_model.specs.declared.trip.Move.{Move}
use Rattle.trip_model.specs.Network.{Fits}
use Rattle.trip_model.specs.Plain.{move_at, move_of_slot, trip_moves}
use Rattle.trip_model.specs.Timetable.{TimetableView, Slot, slot_at, slot_names}
use Rattle.trip_model.specs.Trip.{move_of}
use Rattle.trip_model.proofs.OrderLemmas.{slot-move}
use Rattle.deadhead_matrix.specs.Fitting.{deadhead_network, empty_between, in_time, network_of}
use Rattle.deadhead_matrix.specs.Matrix.{MatrixView, walk}
use Rattle.deadhead_matrix.proofs.Ruled.{allowed-empty, allowed-fits, fits-allowed}

-- a walk for which there is time is the walk
timely : (a b : Move) (found : Option ℕ) → IsSome (in_time a b found) → in_time a b found ≡ found
timely a b None is = absurd (false≢true is)
timely a b (Some minutes) is = by (nat_le (a.arrives + minutes) b.leaves) is
  where
    by : (test : Bool) → IsSome {T = ℕ} (if test then Some minutes else None) → (if test then Some minutes else None) ≡ Some minutes
    by true is = refl
    by false is = absurd (false≢true is)

between : (walk : ℕ → ℕ → Option ℕ) (first second : Slot) (runs also : Bool)
    → IsSome (empty_between walk (if runs then Some (move_of first.trip) else None) (if also then Some (move_of second.trip) else None))
    → empty_between walk (if runs then Some (move_of first.trip) else None) (if also then Some (move_of second.trip) else None) ≡ walk
    first.trip.to second.trip.from
between walk first second true true fits = timely (move_of first.trip) (move_of second.trip) (walk first.trip.to second.trip.from) fits
between walk first second true false fits = absurd (false≢true fits)
between walk first second false true fits = absurd (false≢true fits)
between walk first second false false fits = absurd (false≢true fits)

-- the empty minutes between trips that fit are those of the walk
pub fits-walk : (t : TimetableView) (m : MatrixView) (i j : ℕ) → Fits (network_of t m) i j
    → (network_of t m).empty i j ≡ walk m (slot_at t i).trip.to (slot_at t j).trip.from
fits-walk t m i j fits =
    let names = slot_names t in
    let network = deadhead_network (trip_moves t.slots) m in
    let same : network.empty i j ≡ empty_between (walk m) (move_of_slot (slot_at t i)) (move_of_slot (slot_at t j))
    = (λ k. empty_between (walk m) (slot-move t i k) (slot-move t j k)) in
    allowed-empty m.rules names network i j (fits-allowed m.rules names network i j fits)
    ∙ same
    ∙ between (walk m) (slot_at t i) (slot_at t j) (slot_at t i).trip.live (slot_at t j).trip.live
    (subst IsSome same (allowed-fits m.rules names network i j fits))
