use Rattle.std.proofs.Common.{ap, ◌∙◌}
use Rattle.pair_graph.specs.Pairs.{pairs_network}
use Rattle.price_assign.specs.Plans.{with_slots}
use Rattle.price_repair.proofs.AddLemmas.{IsLoose-added, next-added, IsAdded-searched}
use Rattle.price_repair.proofs.RepairedLemmas.{plan_added-is}
use Rattle.price_repair.proofs.add.after_add.Goals as goal

pub add_leaving-requires-clause-loose : goal.add_leaving-requires-clause-loose
add_leaving-requires-clause-loose g c =
    IsLoose-added c.args.pairs.now _ c.args.slot c.args.solver.now c.set_slots.new.self c.slots-slots.ensures.departures
    c.slots-slots.ensures.valid c.requires.slots c.requires.certified
    (c.set_slots.ensures ∙ ap (with_slots c.args.solver.now) c.slots-slots.ensures.count)

pub returns-clause-added : goal.returns-clause-added
returns-clause-added g c =
    let is = c.set_slots.ensures ∙ ap (with_slots c.args.solver.now) c.slots-slots.ensures.count in
    IsAdded-searched (pairs_network c.args.pairs.now) c.args.solver.now c.set_slots.new.self c.add_leaving.new.solver
    c.add_entering.new.solver c.args.slot
    (IsLoose-added c.args.pairs.now _ c.args.slot c.args.solver.now c.set_slots.new.self c.slots-slots.ensures.departures
    c.slots-slots.ensures.valid c.requires.slots c.requires.certified is)
    (next-added c.args.pairs.now c.args.slot c.args.solver.now c.set_slots.new.self c.requires.slots is)
    c.add_leaving.ensures.path c.add_entering.ensures.path

pub returns-clause-plan : goal.returns-clause-plan
returns-clause-plan g c =
    plan_added-is c.args.pairs.now c.args.slot c.args.solver.now c.set_slots.new.self c.add_leaving.new.solver c.add_entering.new.solver
    (c.set_slots.ensures ∙ ap (with_slots c.args.solver.now) c.slots-slots.ensures.count) c.add_leaving.ensures.plan
    c.add_entering.ensures.plan
