-- What is known as one shift is tried, and as those of one slot are.
use Rattle.std.specs.Prelude.{◌≡◌, ℕ, ◌+◌, ◌*◌, ◌<◌, ◌≤◌, min, true, List, ◌∷◌, ◌++◌, length, All, ℤ, pos, neg_ℤ, ◌+ℤ◌}
use Rattle.deficit_steps.specs.Holds.{Holds}
use Rattle.trip_model.specs.declared.limits.TheConstants.{MOST_SLOTS, MOST_TOLERANCE}
use Rattle.trip_model.specs.declared.trip.Move.{Move}
use Rattle.trip_model.specs.declared.trip.Trip.{Trip}
use Rattle.trip_model.specs.Deficit.{live_moves}
use Rattle.trip_model.specs.Maximum.{first_maximum}
use Rattle.trip_model.specs.Timetable.{Slot, TimetableView, slot_at}
use Rattle.trip_model.specs.Trip.{MayShift}
use Rattle.shift_moves.specs.Lowering.{IsBefore, IsLowering}

-- the moves of the trips that run in two lists of slots, with one move in the place of another
pub record AreSwapped (m n : Move) (old new : List Slot) : Type 0 where
  pub front : List Move
  pub back : List Move
  pub was : live_moves old ≡ front ++ m ∷ back
  pub now : live_moves new ≡ front ++ n ∷ back

-- no more moves than there may be slots are held, which take time, and this is one of them
pub record HoldsAmong (deficits : List (List ℤ)) (m : Move) : Type 0 where
  pub front : List Move
  pub back : List Move
  pub held : Holds deficits (front ++ m ∷ back)
  pub forward : All (λ n. n.leaves < n.arrives) (front ++ m ∷ back)
  pub few : length (front ++ m ∷ back) ≤ MOST_SLOTS

-- the moves of the trips that run are held, over the places of the timetable, and the trip of a slot is one of them
pub record HoldsTrip (deficits : List (List ℤ)) (timetable : TimetableView) (slot : ℕ) : Type 0 where
  pub held : Holds deficits (live_moves timetable.slots)
  pub rows : length deficits ≡ length timetable.places
  pub in_timetable : slot < length timetable.slots
  pub live : (slot_at timetable slot).trip.live ≡ true

-- the maxima of two places added up, where d is a function of the place and of the minute
abbrev pub maxima_at : (ℕ → ℕ → ℤ) → ℕ → ℕ → ℤ
maxima_at d from to = (first_maximum (d from)).0 +ℤ (first_maximum (d to)).0

-- the trip may be moved by up to so many minutes earlier, by up to so many later, and by no more. Together these are at most as
-- many as two tolerances have, since the trip is within its own
pub record IsRoom (trip : Trip) (earlier later : ℕ) : Type 0 where
  pub may_earlier : (size : ℕ) → size ≤ earlier → MayShift trip (neg_ℤ (pos size))
  pub may_later : (size : ℕ) → size ≤ later → MayShift trip (pos size)
  pub no_earlier : (size : ℕ) → MayShift trip (neg_ℤ (pos size)) → size ≤ earlier
  pub no_later : (size : ℕ) → MayShift trip (pos size) → size ≤ later
  pub most : earlier + later ≤ 2 * MOST_TOLERANCE

-- by how many numbers of at most so many minutes the trip may be moved
abbrev pub tried : ℕ → ℕ → ℕ → ℕ
tried earlier later size = min size earlier + min size later

-- the shift lowers the sum, and no shift of the same trip that comes before it does
pub record IsFirstInSlot (timetable : TimetableView) (slot : ℕ) (by : ℤ) : Type 0 where
  pub lowering : IsLowering timetable slot by
  pub least : (b : ℤ) → IsLowering timetable slot b → IsBefore b by → ⊥
