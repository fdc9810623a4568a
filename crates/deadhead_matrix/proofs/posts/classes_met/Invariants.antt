use Rattle.std.proofs.Common.{◌≡◌, false, take}
use Rattle.std.specs.Prelude.{All}
use Rattle.trip_model.specs.Place.{has_slash}
use Rattle.deadhead_matrix.specs.Posts.{classes_met}
use Rattle.deadhead_matrix.proofs.posts.classes_met.Given as goal

abbrev pub invariant-loop-place : goal.invariant-loop-place
invariant-loop-place l = record {
  met : l.classes.items ≡ classes_met (take l.place l.timetable.places);
  named : All (λ class. has_slash class ≡ false) l.classes.items;
}
