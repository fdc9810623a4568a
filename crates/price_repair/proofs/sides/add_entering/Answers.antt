use Rattle.std.proofs.Common.{None, subst, ◌∙◌}
use Rattle.assignment_model.specs.Prices.{IsLoose}
use Rattle.pair_graph.specs.Pairs.{pairs_network}
use Rattle.price_repair.proofs.WithoutLemmas.{IsCertified-pairs}
use Rattle.price_repair.proofs.sides.add_entering.Goals as goal

pub returns-in-Some-clause-certified : goal.returns-in-Some-clause-certified
returns-in-Some-clause-certified g c =
    IsCertified-pairs c.args.pairs.now _ c.search_right.new.self c.slots-slots.ensures.departures
    (c.search_right.ensures.path.lists.slots ∙ c.requires.slots) c.search_right.ensures.loose

pub returns-in_default-clause-certified : goal.returns-in_default-clause-certified
returns-in_default-clause-certified g c =
    IsCertified-pairs c.args.pairs.now _ c.args.solver.now c.slots-slots.ensures.departures c.requires.slots
    (subst (IsLoose (pairs_network c.args.pairs.now) c.args.solver.now None) c.in_default.is c.requires.loose)
