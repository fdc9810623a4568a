use Rattle.std.proofs.Common.{sym, ap, subst, ◌∙◌}
use Rattle.trip_model.specs.Links.{AreLinks}
use Rattle.trip_model.specs.Plain.{timely_network, trip_moves}
use Rattle.trip_model.specs.Timetable.{TimetableView, slot_names}
use Rattle.assignment_model.specs.Prices.{Plan}
use Rattle.deadhead_matrix.proofs.TimelyLinks.{timely-links}
use Rattle.feed_desk.proofs.draw.blocks_now.Goals as goal

pub blocks_of-requires-clause-links : goal.blocks_of-requires-clause-links
blocks_of-requires-clause-links g c =
    let desk = c.args.desk.now in
    let moves = trip_moves desk.script.timetable.slots in
    subst (λ (t : TimetableView). AreLinks (timely_network (trip_moves t.slots)) c.links.result.now) (sym c.timetable.ensures.timetable)
    (subst (AreLinks (timely_network moves)) (sym (c.links.ensures ∙ ap (λ (plan : Plan). plan.next) c.plan.ensures.plan))
    (timely-links (slot_names desk.script.timetable) moves desk.matrix desk.plan.next c.plan.ensures.certified.certified.links))
