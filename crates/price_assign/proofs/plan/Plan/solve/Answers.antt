use Rattle.std.proofs.Common.{◌≡◌, ℕ, length, false, None, sym, ap, subst, arith}
use Rattle.trip_model.specs.Order.{minute_left}
use Rattle.trip_model.specs.Plain.{move_at}
use Rattle.assignment_model.specs.Prices.{Plan, IsDay}
use Rattle.pair_graph.specs.Pairs.{pairs_network}
use Rattle.pair_search.specs.Arranged.{slots_of}
use Rattle.pair_search.specs.Order.{slot_at, IsRenaming}
use Rattle.pair_search.specs.Side.{side_slots}
use Rattle.pair_search.specs.Visits.{AreSearches, Takes}
use Rattle.price_assign.proofs.PlanLemmas.{Takes-of-side, IsCertified-leaving, solved-is}
use Rattle.price_assign.proofs.plan.Plan.solve.Goals as goal

pub returns-clause-certified : goal.returns-clause-certified
returns-clause-certified g c =
    let pairs = c.args.pairs.now in
    let departs : ℕ → ℕ = λ s. minute_left (move_at pairs.moves s) in
    let plan : Plan = record { next = c.link_all.new.links; leave = c.link_all.new.leave.items; enter = c.link_all.new.enter.items } in
    IsCertified-leaving pairs c.of-side.result.columns c.of-side.result.places c.of-side.result.groups c.of-side.result.count departs
    c.of-side.result plan c.of-side.ensures.pairs
    (subst (IsDay (pairs_network pairs)) c.slots-slots.ensures.count c.slots-slots.ensures.day) c.slots-slots.ensures.departures
    c.link_all.ensures.links (omega (arith, c.link_all.ensures.leave.0, c.link_all.ensures.links, c.link_all.new.leave.ok.0))
    (omega (arith, c.link_all.ensures.enter.0, c.link_all.ensures.links, c.link_all.new.enter.ok.0))
    c.link_all.ensures.matched c.link_all.ensures.covers

pub link_all-requires-clause-renaming : goal.link_all-requires-clause-renaming
link_all-requires-clause-renaming g c =
    let side = c.of-side.result in
    let same : length c.args.pairs.now.moves ≡ side_slots side = ap side_slots (sym c.of-side.ensures.pairs) in
    let place = c.arrange-departures.ensures.renaming.0 in
    (place, subst (λ n. IsRenaming n (slot_at n c.arrange-departures.result.now) place) same c.arrange-departures.ensures.renaming.1)

pub returns-clause-plan : goal.returns-clause-plan
returns-clause-plan g c =
    let side = c.of-side.result in
    let plan : Plan = record { next = c.link_all.new.links; leave = c.link_all.new.leave.items; enter = c.link_all.new.enter.items } in
    solved-is c.args.pairs.now side (slots_of side.columns) (slots_of c.arrange-departures.result.now) plan c.of-side.ensures.pairs
    c.of-side.ensures.slots c.arrange-departures.ensures.slots c.link_all.ensures.plan

pub returns-clause-visited : goal.returns-clause-visited
returns-clause-visited g c =
    let side = c.of-side.result in
    let all : side_slots side ≡ length c.args.pairs.now.moves = ap side_slots c.of-side.ensures.pairs in
    Takes-of-side (AreSearches (length c.args.pairs.now.moves)) c.args.pairs.now false None side c.of-side.ensures.pairs
    c.of-side.ensures.columns c.of-side.ensures.slots c.of-side.ensures.groups c.args.looks.now.list c.link_all.new.looks.list c.args.steps.now c.link_all.new.steps
    (subst (λ n. Takes (AreSearches n side) c.args.looks.now.list c.link_all.new.looks.list c.args.steps.now c.link_all.new.steps) all
    c.link_all.ensures.visited)
