use Rattle.std.proofs.Common.{◌≡◌, ℕ, length, false, Some, sym, subst, arith}
use Rattle.trip_model.specs.Order.{minute_left}
use Rattle.trip_model.specs.Plain.{move_at}
use Rattle.assignment_model.specs.Paths.{IsLeftPath}
use Rattle.assignment_model.specs.Prices.{Plan, IsDay, IsLoose}
use Rattle.pair_graph.specs.Pairs.{pairs_network}
use Rattle.pair_search.specs.Arranged.{slots_of}
use Rattle.price_assign.specs.Found.{found_left}
use Rattle.pair_search.proofs.LooseLemmas.{IsLeftPath-loose}
use Rattle.pair_search.specs.Visits.{SearchesOnce}
use Rattle.price_assign.proofs.PlanLemmas.{Takes-of-side, MayBegin-leaving, IsLoose-leaving, found-left}
use Rattle.price_assign.proofs.plan.Plan.search_left.Goals as goal

pub search_links-requires-clause-begins : goal.search_links-requires-clause-begins
search_links-requires-clause-begins g c =
    let pairs = c.args.pairs.now in
    let was : Plan = record { next = c.self.inside.links; leave = c.self.inside.leave.items; enter = c.self.inside.enter.items } in (
      λ _. false,
      c.args.b,
      MayBegin-leaving pairs c.of-side.result.columns c.of-side.result.places c.of-side.result.groups c.of-side.result.count
          c.of-side.result was c.args.a c.args.b c.of-side.ensures.pairs
          (subst (IsDay (pairs_network pairs)) c.slots-slots.ensures.count c.slots-slots.ensures.day)
          (subst (λ (p : Plan). IsLoose (pairs_network pairs) p (Some c.args.a) c.args.b) (sym c.self.view_is) c.requires.loose),
    )

pub returns-clause-loose : goal.returns-clause-loose
returns-clause-loose g c =
    let pairs = c.args.pairs.now in
    let departs : ℕ → ℕ = λ s. minute_left (move_at pairs.moves s) in
    let was : Plan = record { next = c.self.inside.links; leave = c.self.inside.leave.items; enter = c.self.inside.enter.items } in
    let new : Plan = record {
      next = c.search_links.new.links;
      leave = c.search_links.new.leave.items;
      enter = c.search_links.new.enter.items;
    } in
    let loose : IsLoose (pairs_network pairs) was (Some c.args.a) c.args.b =
    subst (λ (p : Plan). IsLoose (pairs_network pairs) p (Some c.args.a) c.args.b) (sym c.self.view_is) c.requires.loose in
    let begins = MayBegin-leaving pairs c.of-side.result.columns c.of-side.result.places c.of-side.result.groups c.of-side.result.count
    c.of-side.result was c.args.a c.args.b c.of-side.ensures.pairs
    (subst (IsDay (pairs_network pairs)) c.slots-slots.ensures.count c.slots-slots.ensures.day) loose in
    IsLoose-leaving pairs c.of-side.result.columns c.of-side.result.places c.of-side.result.groups c.of-side.result.count departs
    c.of-side.result was new c.args.a c.args.b c.of-side.ensures.pairs c.slots-slots.ensures.departures loose
    (omega (arith, c.search_links.ensures.leave.0, c.search_links.ensures.links, c.self.invariant.1, c.search_links.new.leave.ok.0))
    (omega (arith, c.search_links.ensures.enter.0, c.search_links.ensures.links, c.self.invariant.2, c.search_links.new.enter.ok.0))
    (c.search_links.ensures.matched (λ _. false) c.args.b begins) (c.search_links.ensures.covers (λ _. false) c.args.b begins)

pub returns-clause-path : goal.returns-clause-path
returns-clause-path g c =
    let pairs = c.args.pairs.now in
    let departs : ℕ → ℕ = λ s. minute_left (move_at pairs.moves s) in
    let was : Plan = record { next = c.self.inside.links; leave = c.self.inside.leave.items; enter = c.self.inside.enter.items } in
    let new : Plan = record {
      next = c.search_links.new.links;
      leave = c.search_links.new.leave.items;
      enter = c.search_links.new.enter.items;
    } in
    let loose : IsLoose (pairs_network pairs) was (Some c.args.a) c.args.b =
    subst (λ (p : Plan). IsLoose (pairs_network pairs) p (Some c.args.a) c.args.b) (sym c.self.view_is) c.requires.loose in
    let slots : length was.next ≡ length pairs.moves =
    subst (λ (p : Plan). length p.next ≡ length pairs.moves) (sym c.self.view_is) c.requires.slots in
    subst (λ (p : Plan). IsLeftPath p.next c.search_links.new.links c.args.a) c.self.view_is
    (IsLeftPath-loose (pairs_network pairs) (length pairs.moves) departs was new c.args.a c.args.b c.args.b
    (subst (IsDay (pairs_network pairs)) c.slots-slots.ensures.count c.slots-slots.ensures.day) c.slots-slots.ensures.departures
    slots c.search_links.ensures.links loose (returns-clause-loose g c) c.search_links.ensures.path)

pub returns-clause-visited : goal.returns-clause-visited
returns-clause-visited g c =
    Takes-of-side SearchesOnce c.args.pairs.now false c.args.b c.of-side.result c.of-side.ensures.pairs c.of-side.ensures.columns c.of-side.ensures.slots
    c.of-side.ensures.groups c.args.looks.now.list c.search_links.new.looks.list c.args.steps.now c.search_links.new.steps c.search_links.ensures.visited

pub returns-clause-plan : goal.returns-clause-plan
returns-clause-plan g c =
    let pairs = c.args.pairs.now in
    let side = c.of-side.result in
    let was : Plan = record { next = c.self.inside.links; leave = c.self.inside.leave.items; enter = c.self.inside.enter.items } in
    let new : Plan = record {
      next = c.search_links.new.links;
      leave = c.search_links.new.leave.items;
      enter = c.search_links.new.enter.items;
    } in
    subst (λ (p : Plan). new ≡ found_left pairs c.args.a c.args.b p) c.self.view_is
    (found-left pairs side (slots_of side.columns) was new c.args.a c.args.b c.of-side.ensures.pairs c.of-side.ensures.slots
    c.search_links.ensures.plan)
