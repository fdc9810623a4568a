use Rattle.std.proofs.Common.{ap, ◌∙◌}
use Rattle.trip_model.specs.Links.{next_of, before_of}
use Rattle.assignment_model.specs.Prices.{Plan}
use Rattle.price_repair.proofs.CutLemmas.{IsLoose-taken, AreAlike-taken, IsTaken-searched}
use Rattle.price_repair.proofs.RepairedLemmas.{plan_taken-is}
use Rattle.price_repair.proofs.take.after_take.Goals as goal

pub add_leaving-requires-clause-loose : goal.add_leaving-requires-clause-loose
add_leaving-requires-clause-loose g c =
    let links = c.links-links.ensures ∙ ap (λ (p : Plan). p.next) c.plan.ensures in
    IsLoose-taken c.args.pairs.now _ c.args.slot c.args.solver.now c.cut.new.solver _ _ c.slots-slots.ensures.departures c.requires.slots
    c.requires.certified c.cut.ensures
    (c.trip_before-before.ensures ∙ ap (λ links. before_of links c.args.slot) links)
    (c.next-next.ensures ∙ ap (λ links. next_of links c.args.slot) links)

pub returns-clause-taken : goal.returns-clause-taken
returns-clause-taken g c =
    let links = c.links-links.ensures ∙ ap (λ (p : Plan). p.next) c.plan.ensures in
    IsTaken-searched c.args.solver.now c.cut.new.solver c.add_leaving.new.solver c.add_entering.new.solver c.args.slot _ _
    (AreAlike-taken c.args.pairs.now _ c.args.slot c.args.solver.now c.add_entering.new.solver c.slots-slots.ensures.departures
    c.requires.slots c.requires.certified c.add_entering.ensures.slots c.add_entering.ensures.certified)
    c.cut.ensures
    (c.trip_before-before.ensures ∙ ap (λ links. before_of links c.args.slot) links)
    (c.next-next.ensures ∙ ap (λ links. next_of links c.args.slot) links)
    c.add_leaving.ensures.path c.add_entering.ensures.path

pub returns-clause-plan : goal.returns-clause-plan
returns-clause-plan g c =
    let links = c.links-links.ensures ∙ ap (λ (p : Plan). p.next) c.plan.ensures in
    plan_taken-is c.args.pairs.now c.args.slot c.args.solver.now c.cut.new.solver c.add_leaving.new.solver c.add_entering.new.solver _ _
    c.cut.ensures
    (c.trip_before-before.ensures ∙ ap (λ links. before_of links c.args.slot) links)
    (c.next-next.ensures ∙ ap (λ links. next_of links c.args.slot) links)
    c.add_leaving.ensures.plan c.add_entering.ensures.plan
