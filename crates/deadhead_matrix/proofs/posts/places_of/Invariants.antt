use Rattle.std.proofs.Common.{◌≡◌, ◌<◌, [], drop, length}
use Rattle.std.specs.Prelude.{All}
use Rattle.deadhead_matrix.specs.Deadheads.{with_places}
use Rattle.deadhead_matrix.specs.Left.{left_places}
use Rattle.deadhead_matrix.specs.Named.{HasGained, IsPlaceOf}
use Rattle.deadhead_matrix.proofs.posts.places_of.Given as goal

abbrev pub invariant-loop-class : goal.invariant-loop-class
invariant-loop-class l = record {
  gives : with_places l.terminal l.timetable l.places.items (drop l.class-index l.classes) ≡ with_places l.terminal l.initial.timetable []
      l.classes;
  left : left_places l.terminal l.timetable (drop l.class-index l.classes) ≡ left_places l.terminal l.initial.timetable l.classes;
  gained : HasGained (IsPlaceOf l.initial.timetable.classed l.classes l.terminal) l.initial.timetable l.timetable;
  count : length l.places.items ≡ l.class-index;
  within : All (λ place. place < 512) l.places.items;
}
