use Rattle.std.proofs.Common.{◌≡◌, [], take}
use Rattle.trip_model.proofs.timetable.Timetable.copy.Given as goal

abbrev pub invariant-loop-place : goal.invariant-loop-place
invariant-loop-place l = l.copy ≡ record (l.self) { places = take l.place l.self.places; slots = [] }

abbrev pub invariant-loop-slot : goal.invariant-loop-slot
invariant-loop-slot l = l.copy ≡ record (l.self) { slots = take l.slot l.self.slots }
