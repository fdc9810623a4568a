use Rattle.std.proofs.Common.{◌∙◌, None, refl, ap}
use Rattle.assignment_model.specs.Prices.{Plan}
use Rattle.pair_search.specs.Arranged.{slots_of, found_by}
use Rattle.pair_search.specs.Side.{side_slots, side_weight}
use Rattle.pair_search.proofs.LentLemmas.{written, plan-same, MayBegin-same, IsMatched-same, Covers-same}
use Rattle.pair_search.proofs.search.search_links.Goals as goal

pub returns-clause-matched : goal.returns-clause-matched
returns-clause-matched g c = λ out b begins.
    let w = side_weight c.args.side.now in
    IsMatched-same w out None b c.search.new.next c.write_links.new.links c.search.new.leave _ c.search.new.enter _ c.write_links.ensures
    (written c.search.new.leave c.args.leave.now.items c.args.leave.now.len (c.search.auto.leave ∙ c.deref_mut.ensures.len))
    (written c.search.new.enter c.args.enter.now.items c.args.enter.now.len (c.search.auto.enter ∙ c.deref_mut-2.ensures.len))
    (c.search.ensures.matched out b
    (MayBegin-same w (side_slots c.args.side.now) out c.args.a b c.args.links.now c.read_links.new.next c.args.leave.now.items
    c.deref_mut.result.now c.args.enter.now.items c.deref_mut-2.result.now
    c.read_links.ensures c.deref_mut.ensures.value c.deref_mut-2.ensures.value begins))

pub returns-clause-covers : goal.returns-clause-covers
returns-clause-covers g c = λ out b begins.
    let w = side_weight c.args.side.now in
    Covers-same w out None c.search.new.leave _ c.search.new.enter _
    (written c.search.new.leave c.args.leave.now.items c.args.leave.now.len (c.search.auto.leave ∙ c.deref_mut.ensures.len))
    (written c.search.new.enter c.args.enter.now.items c.args.enter.now.len (c.search.auto.enter ∙ c.deref_mut-2.ensures.len))
    (c.search.ensures.covers out b
    (MayBegin-same w (side_slots c.args.side.now) out c.args.a b c.args.links.now c.read_links.new.next c.args.leave.now.items
    c.deref_mut.result.now c.args.enter.now.items c.deref_mut-2.result.now
    c.read_links.ensures c.deref_mut.ensures.value c.deref_mut-2.ensures.value begins))

pub returns-clause-plan : goal.returns-clause-plan
returns-clause-plan g c =
    let side = c.args.side.now in
    let was : Plan = record { next = c.args.links.now; leave = c.args.leave.now.items; enter = c.args.enter.now.items } in
    plan-same (found_by (slots_of side.columns) (side_weight side) c.args.a was) c.search.new.next c.write_links.new.links
    c.search.new.leave _ c.search.new.enter _ c.write_links.ensures
    (written c.search.new.leave c.args.leave.now.items c.args.leave.now.len (c.search.auto.leave ∙ c.deref_mut.ensures.len))
    (written c.search.new.enter c.args.enter.now.items c.args.enter.now.len (c.search.auto.enter ∙ c.deref_mut-2.ensures.len))
    (c.search.ensures.plan ∙ ap (found_by (slots_of side.columns) (side_weight side) c.args.a)
    (plan-same was c.args.links.now c.read_links.new.next c.args.leave.now.items c.deref_mut.result.now c.args.enter.now.items
    c.deref_mut-2.result.now
    c.read_links.ensures c.deref_mut.ensures.value c.deref_mut-2.ensures.value refl))
