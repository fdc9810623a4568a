-- Which deficits those of a timetable are, what a step of a script is for them, and what they hold as a trip is taken out and put in.
use Rattle.std.specs.Prelude.{◌≡◌, ◌<◌, ◌≤◌, List, [], ◌∷◌, ◌++◌, length, All, Option, None, Some, ℤ, if◌then◌else◌}
use Rattle.deficit_steps.specs.Holds.{Holds}
use Rattle.edit_script.specs.Script.{IsTouched}
use Rattle.edit_script.specs.declared.touched.Touched.{Touched}
use Rattle.trip_model.specs.Deficit.{live_moves}
use Rattle.trip_model.specs.Timetable.{TimetableView, IsTimetable}
use Rattle.trip_model.specs.Trip.{move_of}
use Rattle.trip_model.specs.declared.limits.TheConstants.{MOST_SLOTS}
use Rattle.trip_model.specs.declared.trip.Move.{Move}
use Rattle.trip_model.specs.declared.trip.Trip.{Trip}

-- the move of a trip that runs, where there is one
abbrev pub moves_of : Option Trip → List Move
moves_of None = []
moves_of (Some trip) = if trip.live then move_of trip ∷ [] else []

-- deficits hold the moves of the trips of a timetable that run, for its places
pub record AreDeficitsOf (deficits : List (List ℤ)) (timetable : TimetableView) : Type 0 where
  pub held : Holds deficits (live_moves timetable.slots)
  pub rows : length deficits ≡ length timetable.places

-- a step of a script from a valid timetable to another touched this trip
pub record IsStep (touched : Touched) (old new : TimetableView) : Type 0 where
  pub before : IsTimetable old
  pub after : IsTimetable new
  pub touches : IsTouched touched old new

-- no more moves than there may be slots are held, which take time, and among them these
pub record HoldsAmong (deficits : List (List ℤ)) (moves : List Move) : Type 0 where
  pub front : List Move
  pub back : List Move
  pub held : Holds deficits (front ++ (moves ++ back))
  pub forward : All (λ m. m.leaves < m.arrives) (front ++ (moves ++ back))
  pub few : length (front ++ (moves ++ back)) ≤ MOST_SLOTS
