use Rattle.std.proofs.Common.{false, List, sym, subst, ◌≡◌, ◌<◌, length, arith}
use Rattle.std.specs.Prelude.{All}
use Rattle.trip_model.specs.Place.{has_slash}
use Rattle.deadhead_matrix.specs.Posts.{Class}
use Rattle.deadhead_matrix.proofs.ClassLemmas.{class-named, classes_more, classes-named}
use Rattle.deadhead_matrix.proofs.posts.classes_met.Goals as goal

pub loop-place-preserved : goal.loop-place-preserved
loop-place-preserved c =
    let places = c.args.timetable.now.places in
    let lt : c.loop-place.place < length places = omega arith in
    let named = subst (λ (class : Class). has_slash class ≡ false) (sym c.class_name.ensures)
    (class-named c.args.timetable.now c.loop-place.place c.places-place-end.ensures.valid c.requires lt) in
    record {
      met = classes_more places c.loop-place.place c.loop-place.classes.items c.add_class.new.classes.items c.class_name.result.now lt
          c.loop-place.invariant.met c.class_name.ensures c.in_ok-add_class.ensures;
      named = subst (λ (classes : List Class). All (λ class. has_slash class ≡ false) classes) (sym c.in_ok-add_class.ensures)
          (classes-named c.loop-place.classes.items c.class_name.result.now c.loop-place.invariant.named named);
    }
