use Rattle.std.proofs.Common.{arith, refl, rules}
use Rattle.std.specs.Prelude.{Contains}
use Rattle.std.proofs.lemmas.Grind.{common_steps}
use Rattle.std.proofs.lemmas.List.Elements.{Contains-get_or}
use Rattle.deadhead_matrix.proofs.NamedLemmas.{class-gained}
use Rattle.deadhead_matrix.proofs.posts.places_of.Goals as goal

pub returns-in_err-push-clause-gained : goal.returns-in_err-push-clause-gained
returns-in_err-push-clause-gained c =
    let among : Contains c.args.classes.now c.as_str.result.now =
    rw (c.as_str.ensures, c.class-item.is)
    (Contains-get_or c.args.classes.now c.loop-class.class-index c.class-item.result (omega arith)) in
    class-gained c.args.timetable.now.classed c.args.classes.now c.args.terminal.now c.as_str.result.now c.args.timetable.now
    c.loop-class.timetable c.place_of.new.timetable
    refl among c.loop-class.invariant.gained c.place_of.ensures.gained

pub loop-class-preserved : goal.loop-class-preserved
loop-class-preserved c = record {
  gives = grind (arith, common_steps);
  left = grind (arith, common_steps);
  gained =
      let among : Contains c.args.classes.now c.as_str.result.now =
      rw (c.as_str.ensures, c.class-item.is)
      (Contains-get_or c.args.classes.now c.loop-class.class-index c.class-item.result (omega arith)) in
      class-gained c.args.timetable.now.classed c.args.classes.now c.args.terminal.now c.as_str.result.now c.args.timetable.now
      c.loop-class.timetable c.place_of.new.timetable
      refl among c.loop-class.invariant.gained c.place_of.ensures.gained;
  count = grind (arith, common_steps);
  within = search rules;
}
