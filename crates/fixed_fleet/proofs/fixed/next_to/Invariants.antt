use Rattle.std.proofs.Common.{◌≢◌, ℕ, ◌<◌, ◌≤◌, get_or}
use Rattle.trip_model.specs.Timetable.{slot_at}
use Rattle.fixed_fleet.proofs.fixed.next_to.Given as goal

abbrev pub invariant-loop-at : goal.invariant-loop-at
invariant-loop-at l =
    (k : ℕ) → l.from ≤ k → k < l.at → (slot_at l.timetable (get_or l.ended k 0)).trip.to ≢ l.place
