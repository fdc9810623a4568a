use Rattle.std.proofs.Common.{length, sym, ap, subst, ◌∙◌}
use Rattle.std.proofs.lemmas.List.{length-map}
use Rattle.assignment_model.specs.Prices.{IsCertified, Plan}
use Rattle.trip_model.specs.Blocking.{IsLeast}
use Rattle.trip_model.specs.Links.{AreLinks, blocks_along}
use Rattle.trip_model.specs.Order.{by_departure}
use Rattle.trip_model.specs.Plain.{move_of_slot, timely_network, trip_moves}
use Rattle.trip_model.specs.Timetable.{slot_names}
use Rattle.deadhead_matrix.specs.Fitting.{network_of}
use Rattle.deadhead_matrix.specs.Plans.{IsPlanFor}
use Rattle.deadhead_matrix.proofs.TimelyLinks.{timely-links}
use Rattle.pair_graph.specs.Pairs.{PairsView, pairs_network}
use Rattle.feed_schedule.proofs.schedule.schedule_of.Goals as goal

pub blocks_of-requires-clause-links : goal.blocks_of-requires-clause-links
blocks_of-requires-clause-links g c =
    let moves = trip_moves c.args.timetable.now.slots in
    let certified = subst (λ (p : PairsView). IsCertified (pairs_network p) c.solve.new.self) c.of.ensures c.solve.ensures.certified in
    subst (AreLinks (timely_network moves)) (sym (c.links.ensures ∙ ap (λ (plan : Plan). plan.next) c.plan.ensures))
    (timely-links (slot_names c.args.timetable.now) moves c.args.matrix.now c.solve.new.self.next certified.links)

pub returns-clause-scheduled : goal.returns-clause-scheduled
returns-clause-scheduled g c =
    let t = c.args.timetable.now in
    let m = c.args.matrix.now in
    let plan = c.solve.new.self in
    let certified : IsPlanFor t m plan = record {
      slots = c.solve.ensures.slots ∙ ap (λ (p : PairsView). length p.moves) c.of.ensures ∙ length-map t.slots move_of_slot;
      certified = subst (λ (p : PairsView). IsCertified (pairs_network p) plan) c.of.ensures c.solve.ensures.certified;
    } in
    let along = c.in_ok-blocks.ensures.blocks
    ∙ ap (λ links. blocks_along links (by_departure (trip_moves t.slots)))
    (c.links.ensures ∙ ap (λ (plan : Plan). plan.next) c.plan.ensures) in
    record {
      certified = certified;
      along = along;
      least = subst (IsLeast (network_of t m)) (sym along)
          (c.plan_law.ensures t m plan c.slots-slots.ensures.valid c.places-places.ensures.valid certified);
    }
