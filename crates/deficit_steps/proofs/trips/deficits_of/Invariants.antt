use Rattle.std.proofs.Common.{◌≡◌, ◌+◌, ◌*◌, ◌≤◌, length, take}
use Rattle.deficit_steps.specs.Holds.{Holds}
use Rattle.trip_model.specs.Deficit.{live_moves}
use Rattle.deficit_steps.proofs.trips.deficits_of.Given as goal

abbrev pub invariant-loop-s : goal.invariant-loop-s
invariant-loop-s g l = record {
  held : Holds l.deficits (live_moves (take l.s l.timetable.slots));
  places : length l.deficits ≡ length l.timetable.places;
  counted : l.steps ≤ l.initial.steps + 28 * l.s;
}
