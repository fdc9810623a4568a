use Rattle.std.proofs.Common.{◌≡◌, length, take, fold, replicate, None}
use Rattle.trip_model.specs.Plain.{trip_moves}
use Rattle.fixed_fleet.specs.Rule.{with_link, forerunner}
use Rattle.fixed_fleet.proofs.Fronts.{AreFronts}
use Rattle.fixed_fleet.proofs.fixed.fixed_links.Given as goal

abbrev pub invariant-loop-slot : goal.invariant-loop-slot
invariant-loop-slot l = record {
  linked : l.links ≡ fold (λ links j. with_link links (forerunner (trip_moves l.timetable.slots) links j) j)
      (replicate (length (trip_moves l.timetable.slots)) None) (take l.slot-index l.slot-items);
  slots : length l.links ≡ length l.timetable.slots;
  places : length l.fronts.items ≡ length l.timetable.places;
  fronts : AreFronts l.timetable l.links l.ended.items l.fronts.items;
}
